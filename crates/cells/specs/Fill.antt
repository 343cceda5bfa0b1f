-- A working table whose first rows have the levels of the first cells. Assumes nothing.
use Rattle.std.specs.Prelude.{◌≡◌, ℕ, ◌<◌, List, length, take, drop}
use Rattle.level.specs.declared.letter.Letter.{Letter}
use Rattle.level.specs.declared.Level.{Ghosts}
use Rattle.store.specs.Settle.{column}
use Rattle.cells.specs.Cells.{letters_of}

-- the first n rows of `new` have the letters of the first n cells, in each lane, and the others are those of `old`
pub record Filled {X C : Type 0} (L : Ghosts X) (letter : C → List Letter → List Letter → Letter) (cells : List C) (leaves old new : List X) (n : ℕ) : Type 0 where
  pub lanewise : (k : ℕ) → k < L.LANES → column L k (take n new) ≡ letters_of letter (column L k leaves) (take n cells)
  pub rest : drop n new ≡ drop n old
  pub long : length new ≡ length old
