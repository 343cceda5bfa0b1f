use Rattle.std.proofs.Common.{ℕ, ◌<◌, get_or}
use Rattle.control.specs.Databases.{rows_of}
use Rattle.database.specs.declared.rows.TargetRow.{TargetRow}
use Rattle.inspect_layout.specs.Inner.{InOrder}
use Rattle.inspect_layout.proofs.targets.are_in_order.Given as goal

abbrev pub invariant-loop-target : goal.invariant-loop-target
invariant-loop-target l = (k : ℕ) (none : TargetRow) → k < l.target-index → InOrder (rows_of l.rows) l.value (get_or l.own k none)
