use Rattle.database.specs.Rows.{no_node}
use Rattle.database.specs.Soundness.{NodeSound}
use Rattle.control.specs.Databases.{rows_of}
use Rattle.inspect_rows.proofs.Passed.{Passed}
use Rattle.inspect_rows.proofs.nodes.nodes_are_sound.Given as goal

abbrev pub invariant-loop-node : goal.invariant-loop-node
invariant-loop-node l = Passed no_node (NodeSound (rows_of l.rows)) l.node-items l.node-index
