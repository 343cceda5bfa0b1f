use Rattle.std.proofs.Common.{◌≡◌, ℕ, ◌<◌}
use Rattle.control.specs.Databases.{rows_of}
use Rattle.control.specs.Letters.{node_bit}
use Rattle.control.specs.Levels.{OnlyIn, WorkRow}
use Rattle.evaluation.specs.Inner.{Fills, Fed}
use Rattle.evaluation.proofs.filling.fill_node.Given as goal

abbrev pub invariant-loop-b : goal.invariant-loop-b
invariant-loop-b g l = record {
  fills : Fills g.L.Level (rows_of l.design.rows) l.initial.work l.work (λ w xs. Fed (rows_of l.design.rows) w xs l.n) (λ w xs. (b : ℕ) → b < l.b → node_bit xs l.n b ≡ node_bit w l.n b);
  kept : OnlyIn (WorkRow (rows_of l.design.rows)) l.initial.work l.work;
}
