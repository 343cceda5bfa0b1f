use Rattle.std.proofs.Common.{◌≡◌, ◌++◌, drop, replicate}
use Rattle.database.proofs.tables.clear.Given as goal

abbrev pub invariant-loop-index : goal.invariant-loop-index
invariant-loop-index g l = l.table ≡ replicate l.index g.R.TableRow.unused ++ drop l.index l.initial.table
