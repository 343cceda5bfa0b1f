use Rattle.std.proofs.Common.{◌≡◌, [], ◌∷◌, ◌++◌, take, vec_items, sym, ap, ◌∙◌, arith}
use Rattle.least.proofs.Lists.{grown_end}
use Rattle.least.proofs.Notes.{pass_notes, pass_grows, each_end}
use Rattle.rules.specs.Nodes.{node_faults, node_width, widths}
use Rattle.rules.specs.Inner.{known_by}
use Rattle.rules.proofs.nodes.note_nodes.Goals as goal

pub loop-node-preserved : goal.loop-node-preserved
loop-node-preserved c =
    let known = known_by c.args.facts.now in
    let h = c.loop-node.invariant in
    let before = c.deref.result.now in
    let so_far : before ≡ widths known (take c.loop-node.node-index c.args.nodes.now) = c.deref.ensures.value ∙ h.values in
    let pushed = c.in_ok-push.ensures in
    let grows = pushed.items ∙ ap (λ rows. rows ++ c.note_node-width.result ∷ []) (sym c.deref.ensures.value) in
    record {
      notes = pass_notes (node_faults known) (node_width known) c.args.nodes.now c.loop-node.node-index _ c.loop-node-test.true before so_far h.notes c.note_node-width.ensures.notes;
      values = pass_grows (node_faults known) (node_width known) c.args.nodes.now c.loop-node.node-index _ c.loop-node-test.true before so_far c.note_node-width.result (vec_items c.push.new.self) grows c.note_node-width.ensures.value;
      rows = omega (arith, pushed.len, h.rows);
      memory = omega (arith, pushed.capacity, h.memory);
    }

pub returns-in_err-push-clause-memory : goal.returns-in_err-push-clause-memory
returns-in_err-push-clause-memory c = λ limit reserved. omega (arith, c.in_err-push.ensures.capacity, c.loop-node.invariant.memory, c.clear.ensures.capacity)

pub returns-in_err-push-clause-room : goal.returns-in_err-push-clause-room
returns-in_err-push-clause-room c = λ limit reserved few.
    let failed = c.in_err-push.ensures in
    absurd (omega (arith, failed.len, failed.capacity, failed.full, c.loop-node.invariant.rows, c.loop-node.invariant.memory, c.clear.ensures.capacity))

pub returns-clause-notes : goal.returns-clause-notes
returns-clause-notes c =
    let known = known_by c.args.facts.now in
    each_end (λ before n. node_faults known (widths known before) n) c.args.nodes.now c.loop-node.node-index c.loop-node-test.false c.loop-node.invariant.notes

pub returns-clause-values : goal.returns-clause-values
returns-clause-values c =
    let known = known_by c.args.facts.now in
    grown_end (node_width known) c.args.nodes.now c.loop-node.node-index c.loop-node-test.false (vec_items c.loop-node.widths) c.loop-node.invariant.values
