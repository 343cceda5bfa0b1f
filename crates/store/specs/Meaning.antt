-- What a store means. Assumes nothing.
use Rattle.std.specs.Prelude.{ℕ, List, slice_index_or}
use Rattle.level.specs.declared.letter.Letter.{Letter}
use Rattle.level.specs.declared.letter.Letter.TheVariants.{Unknown}

-- a rule that takes the leaves' letters to the signals', with the number of signals, and the number of free cells
pub record Meaning : Type 0 where
  pub signals : List Letter → List Letter
  pub size : ℕ
  pub free : ℕ

-- the letter at a place of a list; past its end, where none is told, X
abbrev pub at : List Letter → ℕ → Letter
at letters k = slice_index_or letters k Unknown
