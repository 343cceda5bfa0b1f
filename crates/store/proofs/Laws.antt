-- The laws of codes and of refusals, and what follows from them, for the proofs of crates above. Assumes nothing.
use Rattle.std.proofs.Common.{◌≡◌, ℕ, ◌<◌, ◌≤◌, false, Some, rules, arith}
use Rattle.std.proofs.lemmas.Grind.{common_steps}
use Rattle.store.specs.declared.faults.StoreFault.{StoreFault}
use Rattle.store.specs.declared.faults.StoreFault.TheVariants.{Full}
use Rattle.store.specs.declared.part.PartKind.{PartKind}
use Rattle.store.specs.Faults.{store_told}
use Rattle.store.specs.Laws.{StoreLaws}
use Rattle.store.specs.Meaning.{Meaning}
use Rattle.store.specs.Parts.{code_of, kind_at, missing}
use Rattle.store.specs.Place.{place_refusal}

pub store_laws_lem : StoreLaws
store_laws_lem = record { coded = search rules; refused = λ price code a b m. record { speaks = grind (arith, common_steps); lowest = grind (arith, common_steps); none = grind (arith, common_steps) } }

-- a part whose operands are there is refused for want of cells alone
pub only_full : (price : PartKind → ℕ) (code a b : ℕ) (m : Meaning) (e : StoreFault) → code ≤ 6 → missing (kind_at code) a b m.size ≡ false → place_refusal price code a b m ≡ Some (store_told e) → (e ≡ Full) × (m.free < price (kind_at code))
only_full = search rules

-- the code of a kind names it again
pub kind_at_lem : (kind : PartKind) → kind_at (code_of kind) ≡ kind
kind_at_lem = search rules
