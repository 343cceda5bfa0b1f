-- The laws of codes and of refusals. Assumes nothing.
use Rattle.std.specs.Prelude.{◌≡◌, ℕ, ◌<◌, ◌≤◌, true, Some, None}
use Rattle.store.specs.declared.faults.StoreFault.{StoreFault}
use Rattle.store.specs.declared.faults.StoreFault.TheVariants.{NoSuchPart, NoSuchOperand, Full, ShortTable}
use Rattle.store.specs.declared.part.PartKind.{PartKind}
use Rattle.store.specs.Faults.{store_told}
use Rattle.store.specs.Meaning.{Meaning}
use Rattle.store.specs.Parts.{code_of, kind_of, kind_at, missing}
use Rattle.store.specs.Place.{place_refusal}

module _ (price : PartKind → ℕ) (code a b : ℕ) where
  -- which refusals speak against placing a part
  abbrev pub Against : Meaning → StoreFault → Type 0
  Against m NoSuchPart = 6 < code
  Against m NoSuchOperand = missing (kind_at code) a b m.size ≡ true
  Against m Full = m.free < price (kind_at code)
  Against m ShortTable = ⊥

  -- a refusal speaks against the part, and no other that does has a lower number; with none, none does
  pub record LowestFirst (m : Meaning) : Type 0 where
    pub speaks : (e : StoreFault) → place_refusal price code a b m ≡ Some (store_told e) → Against m e
    pub lowest : (e f : StoreFault) → place_refusal price code a b m ≡ Some (store_told e) → Against m f → (store_told e).number ≤ (store_told f).number
    pub none : place_refusal price code a b m ≡ None → (f : StoreFault) → Against m f → ⊥

pub record StoreLaws : Type 0 where
  pub coded : (kind : PartKind) → kind_of (code_of kind) ≡ Some kind
  pub refused : (price : PartKind → ℕ) (code a b : ℕ) (m : Meaning) → LowestFirst price code a b m
