use Rattle.std.proofs.Common.{◌+◌, ◌&&◌, nat_le, nat_lt, sum_by, ◌∙◌}
use Rattle.least.proofs.Notes.{then, by_test}
use Rattle.least.specs.declared.rule.Rule.TheVariants.{Overflow}
use Rattle.symbols.specs.Items.{most_declared_bits, declared_bits}
use Rattle.symbols.proofs.Sums.{stopped_pass}
use Rattle.symbols.proofs.items.note_item.Goals as goal

pub returns : goal.returns
returns c =
    then (then (then c.note_name.ensures c.note_item_width.ensures) c.note_overflow.ensures.notes)
    (by_test _ _ c.args.item.name.place Overflow
    (c.pass.ensures
    ∙ (λ i. nat_le (c.requires i) most_declared_bits && nat_lt most_declared_bits (c.requires i + c.declared_bits.ensures i))
    ∙ stopped_pass (sum_by declared_bits c.args.before.now) (declared_bits c.args.item))
    c.note_if.ensures)
