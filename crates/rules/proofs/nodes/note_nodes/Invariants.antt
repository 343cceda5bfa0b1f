use Rattle.std.proofs.Common.{◌≡◌, ◌≤◌, take, vec_items, vec_len, vec_capacity}
use Rattle.least.specs.Order.{Notes}
use Rattle.rules.specs.Nodes.{widths, nodes_faults}
use Rattle.rules.specs.Inner.{known_by}
use Rattle.rules.proofs.nodes.note_nodes.Given as goal

abbrev pub invariant-loop-node : goal.invariant-loop-node
invariant-loop-node l = record {
  notes : Notes l.initial.least (nodes_faults (known_by l.facts) (take l.node-index l.nodes)) l.least;
  values : vec_items l.widths ≡ widths (known_by l.facts) (take l.node-index l.nodes);
  rows : vec_len l.widths ≡ l.node-index;
  memory : vec_capacity l.initial.widths ≤ vec_capacity l.widths;
}
