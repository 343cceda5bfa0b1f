use Rattle.std.proofs.Common.{arith}
use Rattle.least.specs.Each.{numbered}
use Rattle.database.proofs.Fills.{write_turn, write_end}
use Rattle.database.proofs.tables.write.Goals as goal

pub loop-index-preserved : goal.loop-index-preserved
loop-index-preserved g c =
    write_turn g.R.TableRow.unused (numbered (g.R.TableRow.made c.args.said.now) c.args.written.now)
    c.args.table.now c.loop-index.table c.loop-index.index c.row_of.result c.row_of.ensures (omega arith) c.loop-index.invariant

pub returns : goal.returns
returns g c =
    write_end g.R.TableRow.unused (numbered (g.R.TableRow.made c.args.said.now) c.args.written.now)
    c.args.table.now c.loop-index.table c.loop-index.index (omega arith) (omega arith) c.loop-index.invariant
