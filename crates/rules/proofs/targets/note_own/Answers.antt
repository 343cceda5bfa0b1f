use Rattle.std.proofs.Common.{◌==◌, cond, None, ap, ◌∙◌}
use Rattle.least.specs.declared.rule.Rule.TheVariants.{Overflow}
use Rattle.least.proofs.Notes.{then, notes_as}
use Rattle.symbols.specs.Widths.{unless_faulty}
use Rattle.symbols.specs.References.{reference_faults, reference_width}
use Rattle.symbols.proofs.Sides.{unless_more}
use Rattle.rules.specs.Targets.{most_targets, target_standing}
use Rattle.rules.proofs.targets.note_own.Goals as goal

pub returns : goal.returns
returns c =
    let text = c.args.by.now.text.now in
    let items = c.args.by.now.items.now in
    let r = c.args.target.reference in
    let stands = c.target_standing-standing.ensures in
    let standing = target_standing c.args.by.now.statements.now c.args.target in
    record {
      notes = then (notes_as _ (ap (λ s. reference_faults text items s None r) stands) c.note_reference-width.ensures.notes) c.note_overflow-over.ensures.notes;
      value = c.width_unless.ensures
          ∙ (λ i. cond (c.note_overflow-over.ensures.value i) None ((c.note_reference-width.ensures.value ∙ ap (λ s. unless_faulty (reference_faults text items s None r) (reference_width text items s r)) stands) i))
          ∙ unless_more (reference_faults text items standing None r) (c.args.rows == most_targets) r.name.place Overflow (reference_width text items standing r);
    }
