use Rattle.std.proofs.Common.{◌≡◌, ◌++◌, drop}
use Rattle.least.specs.Each.{numbered}
use Rattle.database.proofs.Fills.{begun}
use Rattle.database.proofs.tables.write.Given as goal

abbrev pub invariant-loop-index : goal.invariant-loop-index
invariant-loop-index g l = l.table ≡ begun g.R.TableRow.unused (numbered (g.R.TableRow.made l.said) l.written) l.index ++ drop l.index l.initial.table
