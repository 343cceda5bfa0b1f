-- What placing a part does to a store, and when it is refused. Assumes nothing.
use Rattle.std.specs.Prelude.{◌≡◌, ℕ, ◌+◌, ◌<◌, ◌≤◌, cond, List, take, Some, None, Option, nat_lt}
use Rattle.fault.specs.declared.Refusal.{Refusal}
use Rattle.level.specs.declared.letter.Letter.{Letter}
use Rattle.store.specs.declared.part.PartKind.{PartKind}
use Rattle.store.specs.Faults.{store_refusal}
use Rattle.store.specs.Meaning.{Meaning, at}
use Rattle.store.specs.Parts.{kind_at, part_letter, missing}

module _ (price : PartKind → ℕ) (code a b : ℕ) where
  -- the refusal of the lowest number, if there is one
  abbrev pub place_refusal : Meaning → Option Refusal
  place_refusal m =
      cond (nat_lt 6 code) (Some (store_refusal 20))
      (cond (missing (kind_at code) a b m.size) (Some (store_refusal 21))
      (cond (nat_lt m.free (price (kind_at code))) (Some (store_refusal 22)) None))

  -- from the meaning m to the meaning n by a part whose signal is answered
  pub record Placed (m n : Meaning) (signal : ℕ) : Type 0 where
    pub allowed : place_refusal m ≡ None
    pub there : signal < n.size
    pub letter : (leaves : List Letter) → at (n.signals leaves) signal ≡ part_letter (kind_at code) a b leaves (m.signals leaves)
    pub stays : (leaves : List Letter) → take m.size (n.signals leaves) ≡ m.signals leaves
    pub longer : m.size ≤ n.size
    pub grown : n.size ≤ m.size + price (kind_at code)
    pub falls : n.free ≤ m.free
    pub spent : m.free ≤ n.free + price (kind_at code)
