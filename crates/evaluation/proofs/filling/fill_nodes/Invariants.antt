use Rattle.std.proofs.Common.{◌+◌, length}
use Rattle.control.specs.Databases.{rows_of}
use Rattle.control.specs.Levels.{OnlyIn, WorkRow}
use Rattle.evaluation.specs.Inner.{Fills, MarkedRight, Reached, NodesRight}
use Rattle.evaluation.proofs.filling.fill_nodes.Given as goal

abbrev pub invariant-loop-i : goal.invariant-loop-i
invariant-loop-i g l = record {
  fills : Fills g.L.Level (rows_of l.design.rows) l.initial.work l.work
      (λ w xs. MarkedRight (rows_of l.design.rows) l.filled w xs × Reached (rows_of l.design.rows) w xs (length (rows_of l.design.rows).symbols + 1))
      (λ w xs. NodesRight (rows_of l.design.rows) w xs l.i);
  kept : OnlyIn (WorkRow (rows_of l.design.rows)) l.initial.work l.work;
}
