use Rattle.control.specs.Databases.{rows_of}
use Rattle.database.specs.Rows.{no_node}
use Rattle.database.specs.Soundness.{NodeSound}
use Rattle.inspect_rows.proofs.Passed.{is_next, passed_more}
use Rattle.inspect_rows.proofs.nodes.nodes_are_sound.Goals as goal

pub returns-then-not-node_is_sound : goal.returns-then-not-node_is_sound
returns-then-not-node_is_sound c all =
    c.if-not-node_is_sound.ensures (is_next no_node (NodeSound (rows_of c.args.rows.now)) c.args.rows.now.nodes.now c.loop-node.node-index c.loop-node-test.true all)

pub loop-node-preserved : goal.loop-node-preserved
loop-node-preserved c =
    passed_more no_node (NodeSound (rows_of c.args.rows.now)) c.args.rows.now.nodes.now c.loop-node.node-index c.loop-node.invariant c.if-not-node_is_sound.ensures
