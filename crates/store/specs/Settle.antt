-- What settling a store fills in, and when it is refused. Assumes nothing.
use Rattle.std.specs.Prelude.{◌≡◌, ℕ, ◌<◌, cond, ◌||◌, List, map, length, take, drop, Some, None, Option, nat_lt}
use Rattle.fault.specs.declared.Refusal.{Refusal}
use Rattle.level.specs.declared.letter.Letter.{Letter}
use Rattle.level.specs.declared.Level.{Ghosts}
use Rattle.store.specs.Faults.{store_refusal}
use Rattle.store.specs.Meaning.{Meaning}

-- the letters of rows of levels in a lane
abbrev pub column : {X : Type 0} → Ghosts X → ℕ → List X → List Letter
column L k rows = map (λ level. L.letters level k) rows

-- so many leaf rows and working rows are too few
abbrev pub settle_refusal : Meaning → ℕ → ℕ → Option Refusal
settle_refusal m leaves work = cond (nat_lt leaves 1088 || nat_lt work m.size) (Some (store_refusal 23)) None

-- in each lane the rows of the signals have their letters for those of the leaves, and the rows past them stay
pub record Settled {X : Type 0} (L : Ghosts X) (m : Meaning) (leaves old new : List X) : Type 0 where
  pub allowed : settle_refusal m (length leaves) (length old) ≡ None
  pub lanewise : (k : ℕ) → k < L.LANES → column L k (take m.size new) ≡ m.signals (column L k (take 1088 leaves))
  pub rest : drop m.size new ≡ drop m.size old
