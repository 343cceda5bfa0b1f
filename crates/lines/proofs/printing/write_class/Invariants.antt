use Rattle.level.specs.contracts.ternary.TernaryLevel.TheImpl.{ghosts as ternary}
use Rattle.control.specs.Databases.{rows_of}
use Rattle.control.specs.Levels.{lane}
use Rattle.lines.specs.Cursors.{GotBytes}
use Rattle.lines.proofs.ValuePrints.{shown}
use Rattle.lines.proofs.printing.write_class.Given as goal

abbrev pub invariant-loop-symbol : goal.invariant-loop-symbol
invariant-loop-symbol l = GotBytes (shown (rows_of l.design.rows) (lane ternary l.work 0) l.class l.symbol) l.at l.end l.initial.output l.output
