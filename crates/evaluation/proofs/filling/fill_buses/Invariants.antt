use Rattle.std.proofs.Common.{◌+◌}
use Rattle.control.specs.Databases.{rows_of}
use Rattle.control.specs.Levels.{OnlyIn, WorkRow}
use Rattle.evaluation.specs.Inner.{Fills, MarkedRight, Reached}
use Rattle.evaluation.proofs.filling.fill_buses.Given as goal

abbrev pub invariant-loop-i : goal.invariant-loop-i
invariant-loop-i g l = record {
  fills : Fills g.L.Level (rows_of l.design.rows) l.initial.work l.work
      (λ w xs. MarkedRight (rows_of l.design.rows) l.initial.filled w xs × Reached (rows_of l.design.rows) w xs 1)
      (λ w xs. MarkedRight (rows_of l.design.rows) l.filled w xs × Reached (rows_of l.design.rows) w xs (l.i + 1));
  kept : OnlyIn (WorkRow (rows_of l.design.rows)) l.initial.work l.work;
}
