-- Bit strings: their faults, and what they are. Assumes nothing.
use Rattle.std.specs.Prelude.{ℕ, zero, suc, ◌+◌, ◌*◌, ◌/◌, ◌%◌, ◌^◌, List, [], ◌∷◌, ◌++◌, Option, Some, None, nat_lt}
use Rattle.grammar.specs.declared.draft.Listed.{Listed}
use Rattle.least.specs.declared.rule.Rule.TheVariants.{OutOfRange}
use Rattle.least.specs.declared.rule.RuleFault.{RuleFault}
use Rattle.least.specs.Order.{fault_if}
use Rattle.least.specs.Each.{each, grown, row_at, last_of}
use Rattle.symbols.specs.Items.{most_bits}
use Rattle.symbols.specs.Widths.{unless_faulty, comma_faults, width_up_to}
use Rattle.rules.specs.declared.measures.BitString.{BitString}

abbrev pub no_string : BitString
no_string = record { width = None; value = 0 }

-- 9: an integer that is not 0 or 1
abbrev pub bit_faults : Listed → List RuleFault
bit_faults d = fault_if (nat_lt 1 d.integer.value) d.integer.place OutOfRange

abbrev pub bit_width : Listed → Option ℕ
bit_width d = unless_faulty (bit_faults d) (Some 1)

-- an integer's faults: its own, and 12 at the comma before it
abbrev pub digit_faults : List BitString → Listed → List RuleFault
digit_faults before d = bit_faults d ++ comma_faults d.comma (last_of no_string before).width (bit_width d)

-- The right bit is the least. A string beyond 32 bits is refused, and of its value 32 bits are kept.
abbrev pub value_up_to : Option ℕ → ℕ → ℕ → ℕ
value_up_to None before bit = bit
value_up_to (Some place) before bit = (2 * before + bit) % 2 ^ most_bits

-- the string up to an integer, from the strings up to those before it
abbrev pub string_up_to : List BitString → Listed → BitString
string_up_to before d = record {
  width = width_up_to d.comma (last_of no_string before).width (bit_width d);
  value = value_up_to d.comma (last_of no_string before).value d.integer.value;
}

abbrev pub strings : List Listed → List BitString
strings digits = grown string_up_to digits

abbrev pub digits_faults : List Listed → List RuleFault
digits_faults digits = each (λ before d. digit_faults (strings before) d) digits

-- the string whose last integer stands in that row
abbrev pub string_at : List BitString → ℕ → BitString
string_at strings n = row_at no_string strings n

-- the bits of a number from the left, so many of them: the right one is the least
abbrev pub bits_of : ℕ → ℕ → List ℕ
bits_of zero value = []
bits_of (suc n) value = bits_of n (value / 2) ++ value % 2 ∷ []
