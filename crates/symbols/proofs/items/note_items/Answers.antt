use Rattle.std.proofs.Common.{◌+◌, ◌-◌, ◌^◌, min, take, sum_by, sym, ap, ◌∙◌}
use Rattle.std.proofs.lemmas.List.Sums.{sum_by_more}
use Rattle.least.proofs.Notes.{each_turn}
use Rattle.symbols.specs.Items.{declared_bits, item_faults}
use Rattle.symbols.proofs.Sums.{stopped_more}
use Rattle.symbols.proofs.items.note_items.Goals as goal

pub loop-i-preserved : goal.loop-i-preserved
loop-i-preserved c = (
  c.saturating_add-bits.ensures
      ∙ (λ j. min (c.loop-i.invariant.0 j + c.declared_bits.ensures j) (2 ^ 64 - 1))
      ∙ stopped_more (sum_by declared_bits (take c.loop-i.i c.args.items.now)) _
      ∙ ap (λ n. min n (2 ^ 64 - 1)) (sym (sum_by_more declared_bits c.args.items.now c.loop-i.i _ c.loop-i-test.true)),
  each_turn (item_faults c.args.text.now) c.args.items.now c.loop-i.i _ c.loop-i-test.true c.loop-i.invariant.1 c.note_item.ensures,
)
