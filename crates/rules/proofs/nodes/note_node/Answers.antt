use Rattle.std.proofs.Common.{◌==◌, cond, length, None, ◌∙◌}
use Rattle.least.specs.declared.rule.Rule.TheVariants.{Overflow}
use Rattle.least.proofs.Notes.{then}
use Rattle.symbols.proofs.Sides.{unless_more}
use Rattle.rules.specs.Nodes.{most_nodes, form_faults, form_width}
use Rattle.rules.specs.Inner.{known_by}
use Rattle.rules.proofs.nodes.note_node.Goals as goal

pub returns : goal.returns
returns c =
    let known = known_by c.args.facts.now in
    let widths = c.args.widths.now in
    let n = c.args.node in
    record {
      notes = then c.note_form-width.ensures.notes c.note_overflow-over.ensures.notes;
      value = c.width_unless.ensures ∙ (λ i. cond (c.note_overflow-over.ensures.value i) None (c.note_form-width.ensures.value i))
          ∙ unless_more (form_faults known widths n n.form) (length widths == most_nodes) n.place Overflow (form_width known widths n.form);
    }
