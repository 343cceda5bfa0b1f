use Rattle.std.proofs.Common.{arith}
use Rattle.control.specs.Databases.{rows_of}
use Rattle.inspect_layout.proofs.Readings.{wrong_name, wrong_left, reads_right}
use Rattle.inspect_layout.proofs.targets.+reads_below.Goals as goal

pub returns-then-not-names_below : goal.returns-then-not-names_below
returns-then-not-names_below t c =
    wrong_name (rows_of c.args.rows.now) c.args.number c.args.bound c.node-node.result c.node-node.ensures (omega arith, omega arith) c.if-not-names_below.ensures

pub returns-then-reads_below : goal.returns-then-reads_below
returns-then-reads_below t c =
    reads_right (rows_of c.args.rows.now) c.args.number c.args.bound c.node-node.result c.node-node.ensures (omega arith, omega arith) _ c.if-not-names_below.ensures
    c.if-reads_below.ensures c.reads_below-then-reads_below.ensures

pub returns-else-reads_below : goal.returns-else-reads_below
returns-else-reads_below t c =
    wrong_left (rows_of c.args.rows.now) c.args.number c.args.bound c.node-node.result c.node-node.ensures (omega arith, omega arith) _ c.if-reads_below.false c.reads_below.ensures
