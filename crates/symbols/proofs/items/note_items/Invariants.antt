use Rattle.std.proofs.Common.{◌≡◌, ◌^◌, ◌-◌, min, take, sum_by}
use Rattle.least.specs.Order.{Notes}
use Rattle.symbols.specs.Items.{declared_bits, items_faults}
use Rattle.symbols.proofs.items.note_items.Given as goal

abbrev pub invariant-loop-i : goal.invariant-loop-i
invariant-loop-i l =
    (l.bits ≡ min (sum_by declared_bits (take l.i l.items)) (2 ^ 64 - 1))
    × Notes l.initial.least (items_faults l.text (take l.i l.items)) l.least
