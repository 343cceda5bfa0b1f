use Rattle.design.proofs.HeldRows.{begins_with}
use Rattle.design.proofs.used.used.Goals as goal

pub returns-clause-begins : goal.returns-clause-begins
returns-clause-begins g c = begins_with g.R.TableRow.unused c.args.table.now c.loop-len.len c.loop-len.invariant.unused
