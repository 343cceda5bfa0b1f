-- What bit strings come to. Assumes nothing.
use Rattle.std.specs.Prelude.{◌≡◌, ℕ, ◌≤◌, List, [], ◌∷◌, ◌++◌, map, length, Some, None, IsSome}
use Rattle.grammar.specs.declared.draft.Listed.{Listed}
use Rattle.least.specs.Each.{last_of}
use Rattle.symbols.specs.Items.{most_bits}
use Rattle.rules.specs.Strings.{strings, no_string, bits_of}

-- integers behind a comma, each 0 or 1
abbrev pub MoreBits : List Listed → Type 0
MoreBits [] = Unit {0}
MoreBits (d ∷ ds) = IsSome d.comma × (d.integer.value ≤ 1) × MoreBits ds

-- the integers of one bit string, each 0 or 1: the first has no comma before it, the others have one
abbrev pub IsString : List Listed → Type 0
IsString [] = ⊥
IsString (d ∷ ds) = (d.comma ≡ None) × (d.integer.value ≤ 1) × MoreBits ds

abbrev pub integers_of : List Listed → List ℕ
integers_of digits = map (λ d. d.integer.value) digits

-- A bit string of at most 32 integers, whatever stands before it: it is as wide as it has integers, and the bits of its value are these.
abbrev pub StringsSay : Type 0
StringsSay = (others own : List Listed) → IsString own → length own ≤ most_bits →
    ((last_of no_string (strings (others ++ own))).width ≡ Some (length own))
    × (bits_of (length own) (last_of no_string (strings (others ++ own))).value ≡ integers_of own)
