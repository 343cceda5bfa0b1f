-- A part with its operands: as it is read from a call, and as a cell of the gate table. Assumes nothing.
use Rattle.std.specs.Prelude.{ℕ, Bool, List, [], ◌∷◌}
use Rattle.level.specs.declared.letter.Letter.{Letter}
use Rattle.store.specs.declared.part.PartKind.{PartKind}
use Rattle.store.specs.declared.part.PartKind.TheVariants.{Zero, One, Leaf, Not, And, Or, Xor}
use Rattle.store.specs.Parts.{missing, part_letter}
use Rattle.cells.specs.declared.part.Part.{Part}

-- the operands that a kind uses, and 0 for those that it does not
abbrev pub operands_of : PartKind → ℕ → ℕ → ℕ × ℕ
operands_of Zero a b = (0, 0)
operands_of One a b = (0, 0)
operands_of Leaf a b = (a, 0)
operands_of Not a b = (a, 0)
operands_of And a b = (a, b)
operands_of Or a b = (a, b)
operands_of Xor a b = (a, b)

abbrev pub part_of : PartKind → ℕ → ℕ → Part
part_of kind a b = record { kind = kind; first = (operands_of kind a b).0; second = (operands_of kind a b).1 }

-- every part costs a cell in the gate table
abbrev pub gate_costs : List ℕ
gate_costs = 1 ∷ 1 ∷ 1 ∷ 1 ∷ 1 ∷ 1 ∷ 1 ∷ []

-- the letter of a part as a cell
abbrev pub gate_letter : Part → List Letter → List Letter → Letter
gate_letter part leaves before = part_letter part.kind part.first part.second leaves before

-- whether it names what is not there
abbrev pub gate_dangles : ℕ → Part → Bool
gate_dangles n part = missing part.kind part.first part.second n
