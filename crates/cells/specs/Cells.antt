-- The letters of a list of cells, of whatever type. Assumes nothing.
use Rattle.std.specs.Prelude.{◌≡◌, ℕ, ◌+◌, ◌-◌, ◌<◌, ◌≤◌, Bool, false, List, [], ◌∷◌, ◌++◌, length, slice_index_or}
use Rattle.level.specs.declared.letter.Letter.{Letter}
use Rattle.store.specs.declared.part.PartKind.{PartKind}
use Rattle.store.specs.Meaning.{Meaning, at}
use Rattle.cells.specs.declared.part.Part.{Part}
use Rattle.cells.specs.Read.{gate_letter}

module _ {C : Type 0} where
  -- the letters before, and then each cell's, which follows from those of the leaves and from those before it
  unfoldable pub letters_after : (C → List Letter → List Letter → Letter) → List Letter → List C → List Letter → List Letter
  letters_after letter leaves [] before = before
  letters_after letter leaves (c ∷ cells) before = letters_after letter leaves cells (before ++ letter c leaves before ∷ [])

  abbrev pub letters_of : (C → List Letter → List Letter → Letter) → List Letter → List C → List Letter
  letters_of letter leaves cells = letters_after letter leaves cells []

  -- no cell names what is not there before it
  abbrev pub Sound : (ℕ → C → Bool) → List C → Type 0
  Sound dangles cells = (n : ℕ) (c : C) → n < length cells → dangles n (slice_index_or cells n c) ≡ false

  -- what a table of cells means, that has room for so many
  abbrev pub table_meaning : (C → List Letter → List Letter → Letter) → List C → ℕ → Meaning
  table_meaning letter cells limit = record {
    signals = λ leaves. letters_of letter leaves cells;
    size = length cells;
    free = limit - length cells;
  }

  -- a list of cells, none of which dangles, grew by those that stand for a part: few enough, the last with the part's letter
  pub record Expanded (letter : C → List Letter → List Letter → Letter) (dangles : ℕ → C → Bool) (price : PartKind → ℕ) (part : Part) (old new : List C) (signal : ℕ) : Type 0 where
    pub more : List C
    pub grown : new ≡ old ++ more
    pub few : length more ≤ price part.kind
    pub last : signal + 1 ≡ length new
    pub sound : Sound dangles old → Sound dangles new
    pub means : (leaves : List Letter) → at (letters_of letter leaves new) signal ≡ gate_letter part leaves (letters_of letter leaves old)
