use Rattle.std.proofs.Common.{not, is_some, ap, ◌∙◌}
use Rattle.least.proofs.Notes.{then, by_test, notes_as}
use Rattle.least.specs.declared.rule.Rule.TheVariants.{Undeclared, BusOrder}
use Rattle.symbols.specs.References.{bus_of, is_late, symbol_width, subscript_faults}
use Rattle.symbols.proofs.Sides.{flip}
use Rattle.symbols.proofs.references.note_reference.Goals as goal

pub returns-clause-notes : goal.returns-clause-notes
returns-clause-notes c =
    let found = c.symbol_at-found.ensures in
    let items = c.args.items.now in
    let r = c.args.reference in
    let late = c.is_late-late.ensures ∙ ap (is_late c.args.first) (c.bus_of.ensures ∙ ap (bus_of items) found) in
    let width = c.symbol_width.ensures ∙ ap (symbol_width items) found in
    then (then (by_test _ _ r.name.place Undeclared (flip _ _ c.is_none.ensures ∙ ap (λ k. not (is_some k)) found) c.note_if.ensures)
    (by_test _ _ r.name.place BusOrder late c.note_if-2.ensures))
    (notes_as _ (ap (λ w. subscript_faults w r.subscript) width) c.note_subscript-width.ensures.notes)
