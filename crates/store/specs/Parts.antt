-- The parts: their codes, their letters, and what they need. Assumes nothing.
use Rattle.std.specs.Prelude.{◌≡◌, ℕ, Bool, false, cond, ◌||◌, List, [], ◌∷◌, Some, None, Ok, Err, Option, Result, nat_le, nat_lt, slice_index, slice_index_or, codes}
use Rattle.level.specs.declared.letter.Letter.{Letter}
use Rattle.level.specs.Letters.{zero_l, one_l, not_l, and_l, or_l, xor_l}
use Rattle.store.specs.declared.faults.StoreFault.{StoreFault}
use Rattle.store.specs.declared.faults.StoreFault.TheVariants.{NoSuchPart}
use Rattle.store.specs.declared.part.PartKind.{PartKind}
use Rattle.store.specs.declared.part.PartKind.TheVariants.{Zero, One, Leaf, Not, And, Or, Xor}
use Rattle.store.specs.Meaning.{at}

-- the kinds in the order of their codes, from 0
abbrev pub kinds : List PartKind
kinds = Zero ∷ One ∷ Leaf ∷ Not ∷ And ∷ Or ∷ Xor ∷ []

-- the kind of a code that is at most 6
abbrev pub kind_at : ℕ → PartKind
kind_at code = slice_index_or kinds code Zero

abbrev pub kind_of : ℕ → Option PartKind
kind_of code = cond (nat_lt 6 code) None (Some (kind_at code))

abbrev pub code_of : PartKind → ℕ
code_of Zero = 0
code_of One = 1
code_of Leaf = 2
code_of Not = 3
code_of And = 4
code_of Or = 5
code_of Xor = 6

-- what is read of a code: its kind, or that there is none
abbrev pub KindRead : ℕ → Result PartKind StoreFault → Type 0
KindRead code (Ok kind) = kind_of code ≡ Some kind
KindRead code (Err e) = (kind_of code ≡ None) × (e ≡ NoSuchPart)

-- the kind's name
abbrev pub kind_name : PartKind → List ℕ
kind_name Zero = codes "ZERO"
kind_name One = codes "ONE"
kind_name Leaf = codes "LEAF"
kind_name Not = codes "NOT"
kind_name And = codes "AND"
kind_name Or = codes "OR"
kind_name Xor = codes "XOR"

-- what a part costs, where the costs stand in the order of the codes
abbrev pub price : List ℕ → PartKind → ℕ
price costs kind = slice_index costs (code_of kind)

-- the letter of a part, given those of its leaf and of its operands
abbrev pub kind_letter : PartKind → Letter → Letter → Letter → Letter
kind_letter Zero leaf a b = zero_l
kind_letter One leaf a b = one_l
kind_letter Leaf leaf a b = leaf
kind_letter Not leaf a b = not_l a
kind_letter And leaf a b = and_l a b
kind_letter Or leaf a b = or_l a b
kind_letter Xor leaf a b = xor_l a b

-- the first operand's letter, which a leaf has for its own, never changes the letter of a part of this kind
abbrev pub IgnoresFirst : PartKind → Type 0
IgnoresFirst kind = (a x b : Letter) → kind_letter kind a a b ≡ kind_letter kind x x b

-- the second operand's letter never changes it
abbrev pub IgnoresSecond : PartKind → Type 0
IgnoresSecond kind = (a b x : Letter) → kind_letter kind a a b ≡ kind_letter kind a a x

-- the letter of a part over the operand numbers a and b, given the letters of the leaves and of the signals before it
abbrev pub part_letter : PartKind → ℕ → ℕ → List Letter → List Letter → Letter
part_letter kind a b leaves signals = kind_letter kind (at leaves a) (at signals a) (at signals b)

-- whether an operand that the part uses is not below the number of signals, or its leaf not below 1,088
abbrev pub missing : PartKind → ℕ → ℕ → ℕ → Bool
missing Zero a b size = false
missing One a b size = false
missing Leaf a b size = nat_le 1088 a
missing Not a b size = nat_le size a
missing And a b size = nat_le size a || nat_le size b
missing Or a b size = nat_le size a || nat_le size b
missing Xor a b size = nat_le size a || nat_le size b
