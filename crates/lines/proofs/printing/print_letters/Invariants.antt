use Rattle.level.specs.contracts.ternary.TernaryLevel.TheImpl.{ghosts as ternary}
use Rattle.control.specs.Databases.{rows_of}
use Rattle.control.specs.Levels.{lane}
use Rattle.lines.specs.Cursors.{GotBytes}
use Rattle.lines.proofs.ValuePrints.{classes_shown}
use Rattle.lines.proofs.printing.print_letters.Given as goal

abbrev pub invariant-loop-class : goal.invariant-loop-class
invariant-loop-class l = GotBytes (classes_shown (rows_of l.design.rows) (lane ternary l.work 0) l.class-index) 0 l.end l.initial.output l.output
