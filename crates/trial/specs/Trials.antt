-- What a part on trial answers. Assumes nothing.
use Rattle.std.specs.Prelude.{◌≡◌, ℕ, ◌+◌, ◌<◌, ◌≤◌, List, length, slice_index_or}
use Rattle.level.specs.declared.letter.Letter.{Letter}
use Rattle.level.specs.declared.letter.Letter.TheVariants as letter
use Rattle.level.specs.declared.ternary.Ternary.{Ternary}
use Rattle.store.specs.declared.faults.NewStoreFault.TheVariants as new
use Rattle.store.specs.declared.faults.StoreFault.TheVariants as store
use Rattle.store.specs.declared.part.PartKind.{PartKind}
use Rattle.store.specs.declared.part.PartKind.TheVariants.{Zero, One, Leaf, Not, And, Or, Xor}
use Rattle.store.specs.declared.Store.{Ghosts}
use Rattle.store.specs.Meaning.{at}
use Rattle.store.specs.Parts.{code_of, kind_letter, price}
use Rattle.store.specs.Place.{Placed}
use Rattle.trial.specs.declared.Placement.{Placement}
use Rattle.trial.specs.declared.Trial.{Trial}
use Rattle.trial.specs.declared.faults.TrialFault.{TrialFault}
use Rattle.trial.specs.declared.faults.TrialFault.TheVariants as fault

-- the first operand of a part over a signal, or over leaf 0
abbrev pub first_of : PartKind → ℕ → ℕ
first_of Zero signal = signal
first_of One signal = signal
first_of Leaf signal = 0
first_of Not signal = signal
first_of And signal = signal
first_of Or signal = signal
first_of Xor signal = signal

-- placing a part of this kind took a store from `before` to `after`, which has so many signals more
pub record Took {X : Type 0} (S : Ghosts X) (kind : PartKind) (after : X) (signal cells : ℕ) : Type 0 where
  pub before : X
  pub first : ℕ
  pub second : ℕ
  pub placed : Placed (price S.COSTS) (code_of kind) first second (S.means before) (S.means after) signal
  pub taken : cells + (S.means before).size ≡ (S.means after).size

-- a part that stands in a store over the leaves 0 and 1, whatever their letters are
pub record OverLeaves {X : Type 0} (S : Ghosts X) (kind : PartKind) (s : X) (p : Placement) : Type 0 where
  pub took : Took S kind s p.signal p.cells
  pub there : p.signal < (S.means s).size
  pub letter : (leaves : List Letter) → at ((S.means s).signals leaves) p.signal ≡ kind_letter kind (at leaves 0) (at leaves 0) (at leaves 1)
  pub few : p.cells ≤ price S.COSTS kind

-- a trial tells the letter that the rules give, and by how many signals its part made a store longer
pub record Tried {X : Type 0} (S : Ghosts X) (kind : PartKind) (a b : Letter) (t : Trial) : Type 0 where
  pub letter : t.letter ≡ kind_letter kind a a b
  pub after : X
  pub signal : ℕ
  pub took : Took S kind after signal t.cells
  pub few : t.cells ≤ price S.COSTS kind

-- a leaf table whose first two rows have these letters
pub record LeafRows (a b : Letter) (rows : List Ternary) : Type 0 where
  pub long : length rows ≡ 1088
  pub first : slice_index_or rows 0 (record { 0 = letter.Zero }) ≡ record { 0 = a }
  pub second : slice_index_or rows 1 (record { 0 = letter.Zero }) ≡ record { 0 = b }

-- so many free cells are too few for the two leaves and a part of this kind
abbrev pub TooFew : List ℕ → PartKind → ℕ → Type 0
TooFew costs kind free = free < price costs Leaf + (price costs Leaf + price costs kind)

-- a trial in a store of 16 cells fails for want of memory, or of cells, where 16 are too few for it, alone
abbrev pub Excused : {X : Type 0} → Ghosts X → PartKind → TrialFault → Type 0
Excused S kind (fault.New e) = e ≡ new.OutOfMemory
Excused S kind (fault.Store e) = (e ≡ store.Full) × TooFew S.COSTS kind 16
Excused S kind (fault.Level e) = ⊥
Excused S kind fault.OutOfMemory = Unit {0}
