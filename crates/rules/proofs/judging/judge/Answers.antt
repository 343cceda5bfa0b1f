use Rattle.std.proofs.Common.{◌≡◌, ap, ◌∙◌}
use Rattle.grammar.specs.Drafts.{draft_lists}
use Rattle.least.specs.Order.{Notes, lesser, least}
use Rattle.least.proofs.Notes.{then, notes_as}
use Rattle.rules.specs.Nodes.{nodes_faults, widths}
use Rattle.rules.specs.Steps.{statements_faults, steps_faults}
use Rattle.rules.specs.Faults.{known, node_widths, exit_counts, faults}
use Rattle.rules.specs.Inner.{known_by}
use Rattle.rules.proofs.judging.judge.Goals as goal

pub returns-clause-fault : goal.returns-clause-fault
returns-clause-fault c =
    let text = c.args.text.now in
    let d = draft_lists c.args.draft.now in
    let rows = d.rows in
    let sides_are = c.in_ok-note_targets.ensures.values in
    let strings_are = c.in_ok-note_digits.ensures.values in
    let known_are : known_by (record { text = c.args.text; items = c.args.draft.now.items; sides = c.deref.result; strings = c.deref-2.result }) ≡ known text d
    = λ i. record { text = text; items = rows.items; sides = (c.deref.ensures.value ∙ sides_are) i; strings = (c.deref-2.ensures.value ∙ strings_are) i } in
    let widths_are = c.in_ok-note_nodes.ensures.values ∙ ap (λ k. widths k rows.terms.nodes) known_are in
    let counts_are = c.in_ok-note_exits.ensures.values in
    let nodes_noted = notes_as (nodes_faults (known text d) rows.terms.nodes) (ap (λ k. nodes_faults k rows.terms.nodes) known_are) c.in_ok-note_nodes.ensures.notes in
    let statements_noted = notes_as (statements_faults (known text d).sides (node_widths text d) rows.statements)
    (λ i. statements_faults ((c.deref-3.ensures.value ∙ sides_are) i) ((c.deref-4.ensures.value ∙ widths_are) i) rows.statements) c.note_statements.ensures in
    let steps_noted = notes_as (steps_faults (node_widths text d) (exit_counts d) rows.steps)
    (λ i. steps_faults ((c.deref-5.ensures.value ∙ widths_are) i) ((c.deref-6.ensures.value ∙ counts_are) i) rows.steps) c.note_steps.ensures in
    let all : Notes c.new-least.result (faults text d) c.note_resets.new.least =
    then (then (then (then (then (then (then (then
    c.note_items.ensures c.note_name.ensures) c.in_ok-note_targets.ensures.notes) c.in_ok-note_digits.ensures.notes) nodes_noted)
    statements_noted) c.in_ok-note_exits.ensures.notes) steps_noted) c.note_resets.ensures in
    all.is ∙ ap (λ o. lesser o (least (faults text d))) c.new-least.ensures
