-- The patterns of NAND cells that stand for parts. Assumes nothing.
use Rattle.std.specs.Prelude.{ℕ, suc, ◌+◌, ◌-◌, Bool, true, false, ◌&&◌, List, [], ◌∷◌, ◌++◌, length, ◌==◌, nat_lt}
use Rattle.level.specs.declared.letter.Letter.{Letter}
use Rattle.level.specs.declared.letter.Letter.TheVariants as letter
use Rattle.level.specs.Letters.{zero_l, one_l, symbol_of}
use Rattle.store.specs.declared.part.PartKind.{PartKind}
use Rattle.store.specs.declared.part.PartKind.TheVariants.{Zero, One, Leaf, Not, And, Or, Xor}
use Rattle.store.specs.Meaning.{at}
use Rattle.store.specs.Parts.{kind_letter}
use Rattle.cells.specs.declared.nand.NandCell.{NandCell}
use Rattle.cells.specs.declared.nand.NandCell.TheVariants as nand
use Rattle.cells.specs.declared.part.Part.{Part}
use Rattle.cells.specs.declared.pattern.Pin.{Pin}
use Rattle.cells.specs.declared.pattern.Pin.TheVariants.{First, Second, Inner}
use Rattle.cells.specs.declared.pattern.Stage.{Stage}
use Rattle.cells.specs.declared.pattern.Stage.TheVariants as stage
use Rattle.cells.specs.Nands.{nand_l}

-- what the parts cost in the NAND table, in the order of their codes
abbrev pub nand_costs : List ℕ
nand_costs = 1 ∷ 1 ∷ 1 ∷ 1 ∷ 2 ∷ 3 ∷ 4 ∷ []

module _ (leaf a b : Letter) where
  abbrev pub pin_letter : List Letter → Pin → Letter
  pin_letter before First = a
  pin_letter before Second = b
  pin_letter before (Inner n) = at before n

  abbrev pub stage_letter : List Letter → Stage → Letter
  stage_letter before stage.Zero = zero_l
  stage_letter before stage.One = one_l
  stage_letter before stage.Leaf = leaf
  stage_letter before (stage.Nand p q) = nand_l (pin_letter before p) (pin_letter before q)

  -- the letters before, and then those of the stages of a pattern
  abbrev pub stages_after : List Stage → List Letter → List Letter
  stages_after [] before = before
  stages_after (s ∷ stages) before = stages_after stages (before ++ stage_letter before s ∷ [])

  -- the letter of the last stage
  abbrev pub last_letter : List Stage → Letter
  last_letter stages = at (stages_after stages []) (length stages - 1)

abbrev pub same_letter : Letter → Letter → Bool
same_letter x y = symbol_of x == symbol_of y

abbrev pub every_letter : (Letter → Bool) → Bool
every_letter test = test letter.Zero && (test letter.One && test letter.Unknown)

-- the last stage has the part's letter, whatever the letters of the leaf and of the operands are
abbrev pub realises : PartKind → List Stage → Bool
realises kind stages = every_letter (λ leaf. every_letter (λ a. every_letter (λ b. same_letter (last_letter leaf a b stages) (kind_letter kind leaf a b))))

abbrev pub is_leaf : PartKind → Bool
is_leaf Zero = false
is_leaf One = false
is_leaf Leaf = true
is_leaf Not = false
is_leaf And = false
is_leaf Or = false
is_leaf Xor = false

-- whether the first operand of a part is a signal
abbrev pub has_first : PartKind → Bool
has_first Zero = false
has_first One = false
has_first Leaf = false
has_first Not = true
has_first And = true
has_first Or = true
has_first Xor = true

-- whether it has a second operand
abbrev pub has_second : PartKind → Bool
has_second Zero = false
has_second One = false
has_second Leaf = false
has_second Not = false
has_second And = true
has_second Or = true
has_second Xor = true

module _ (kind : PartKind) where
  -- stage n takes an operand that the part has, or an earlier stage
  abbrev pub pin_wired : ℕ → Pin → Bool
  pin_wired n First = has_first kind
  pin_wired n Second = has_second kind
  pin_wired n (Inner k) = nat_lt k n

  abbrev pub stage_wired : ℕ → Stage → Bool
  stage_wired n stage.Zero = true
  stage_wired n stage.One = true
  stage_wired n stage.Leaf = is_leaf kind
  stage_wired n (stage.Nand p q) = pin_wired n p && pin_wired n q

  -- the stages from number n on take what is there
  abbrev pub wired : ℕ → List Stage → Bool
  wired n [] = true
  wired n (s ∷ stages) = stage_wired n s && wired (suc n) stages

module _ (part : Part) (base : ℕ) where
  -- the signal that a pin names, where the pattern's first cell stands at the base
  abbrev pub pin_signal : Pin → ℕ
  pin_signal First = part.first
  pin_signal Second = part.second
  pin_signal (Inner n) = base + n

  -- the cell of a stage
  abbrev pub stage_cell : Stage → NandCell
  stage_cell stage.Zero = nand.Zero
  stage_cell stage.One = nand.One
  stage_cell stage.Leaf = nand.Leaf part.first
  stage_cell (stage.Nand p q) = nand.Nand (pin_signal p) (pin_signal q)
