-- A part as it is read means what was asked for. Assumes nothing.
use Rattle.std.proofs.Common.{◌≡◌, ℕ, ◌≤◌, List, Some, arith}
use Rattle.std.proofs.lemmas.Grind.{common_steps}
use Rattle.level.specs.declared.letter.Letter.{Letter}
use Rattle.store.specs.declared.part.PartKind.{PartKind}
use Rattle.store.specs.Parts.{kind_at, kind_of, part_letter, price}
use Rattle.cells.specs.Read.{part_of, gate_costs, gate_letter}

-- a kind that was read of a code
pub kind_named : (code : ℕ) (kind : PartKind) → kind_of code ≡ Some kind → (code ≤ 6) × (kind_at code ≡ kind)
kind_named = grind (arith, common_steps)

-- a part over its operands has the letter that was asked for
pub gate_means : (kind : PartKind) (a b : ℕ) (leaves before : List Letter) → gate_letter (part_of kind a b) leaves before ≡ part_letter kind a b leaves before
gate_means = grind (arith, common_steps)

-- every part costs a cell
pub one_cell : (kind : PartKind) → price gate_costs kind ≡ 1
one_cell = grind (arith, common_steps)
