use Rattle.std.proofs.Common.{◌-◌, length}
use Rattle.control.specs.Databases.{rows_of}
use Rattle.control.specs.Levels.{OnlyIn, WorkRow}
use Rattle.evaluation.specs.Inner.{AtTarget, Fills, MarkedRight, Reached, Sourced, targets_before}
use Rattle.evaluation.proofs.filling.fill_values.Given as goal

abbrev pub invariant-loop-n : goal.invariant-loop-n
invariant-loop-n g l = record {
  row : AtTarget (rows_of l.design.rows) l.bus l.n;
  fills : Fills g.L.Level (rows_of l.design.rows) l.initial.work l.work
      (λ w xs. MarkedRight (rows_of l.design.rows) l.initial.filled w xs × Reached (rows_of l.design.rows) w xs l.bus)
      (λ w xs. MarkedRight (rows_of l.design.rows) l.filled w xs × Sourced (rows_of l.design.rows) w xs l.bus (targets_before (rows_of l.design.rows) l.n));
  kept : OnlyIn (WorkRow (rows_of l.design.rows)) l.initial.work l.work;
}

abbrev pub decreases-loop-n : goal.decreases-loop-n
decreases-loop-n g l = length (rows_of l.design.rows).targets - targets_before (rows_of l.design.rows) l.n
