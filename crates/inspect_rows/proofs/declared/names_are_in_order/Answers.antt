use Rattle.std.proofs.Common.{arith}
use Rattle.inspect_rows.proofs.Passed.{next_in_order}
use Rattle.inspect_rows.proofs.declared.names_are_in_order.Goals as goal

pub returns-then-not-ends_by : goal.returns-then-not-ends_by
returns-then-not-ends_by c all = c.if-not-ends_by.ensures (next_in_order c.args.symbols.now c.loop-i.i (omega arith) c.loop-i-test.true all)
