use Rattle.std.proofs.Common.{arith}
use Rattle.database.proofs.Fills.{clear_turn, clear_end}
use Rattle.database.proofs.tables.clear.Goals as goal

pub loop-index-preserved : goal.loop-index-preserved
loop-index-preserved g c = clear_turn c.args.table.now c.loop-index.table c.loop-index.index g.R.TableRow.unused c.unused.result c.unused.ensures (omega arith) c.loop-index.invariant

pub returns : goal.returns
returns g c = clear_end c.args.table.now c.loop-index.table c.loop-index.index g.R.TableRow.unused (omega arith) (omega arith) c.loop-index.invariant
