use Rattle.level.specs.contracts.ternary.TernaryLevel.TheImpl.{ghosts as ternary}
use Rattle.control.specs.Databases.{rows_of}
use Rattle.control.specs.Levels.{lane, OnlyIn, HeldRow}
use Rattle.lines.specs.Cursors.{from_list, Drives}
use Rattle.lines.proofs.play.drive_inputs.Given as goal

abbrev pub invariant-loop-input : goal.invariant-loop-input
invariant-loop-input l = record {
  driven : Drives l.input (from_list l.letters) (lane ternary l.initial.held 0) (lane ternary l.held 0);
  rows : OnlyIn (HeldRow (rows_of l.engine.design.rows)) l.initial.held l.held;
}
