-- Lines read, and outputs written, from a place on. Assumes nothing.
use Rattle.std.specs.Prelude.{◌≡◌, ◌⊎◌, ℕ, ◌+◌, ◌<◌, ◌≤◌, cond, ◌==◌, List, [], ◌∷◌, ◌++◌, map, length, get_or, take, drop}
use Rattle.level.specs.declared.letter.Letter.{Letter}
use Rattle.level.specs.declared.letter.Letter.TheVariants.{Unknown}
use Rattle.level.specs.declared.ternary.Ternary.{Ternary}
use Rattle.level.specs.Letters.{symbol_of}
use Rattle.control.specs.Letters.{Letters}

-- From a place on a line has this word, up to the place n.
pub record Has (word line : List ℕ) (at n : ℕ) : Type 0 where
  pub count : n ≡ at + length word
  pub within : n ≤ length line
  pub bytes : drop at line ≡ word ++ drop n line

-- From a place on an output got these bytes, up to the place n; nothing behind them changed.
pub record GotBytes (bytes : List ℕ) (at n : ℕ) (old new : List ℕ) : Type 0 where
  pub count : n ≡ at + length bytes
  pub before : take n new ≡ take at old ++ bytes
  pub behind : drop n new ≡ drop n old

-- the characters of letters, and of levels
abbrev pub characters : List Letter → List ℕ
characters letters = map symbol_of letters

abbrev pub level_characters : List Ternary → List ℕ
level_characters levels = map (λ level. symbol_of level.0) levels

-- words with a space behind each
abbrev pub spaced_behind : List (List ℕ) → List ℕ
spaced_behind [] = []
spaced_behind (x ∷ xs) = x ++ 32 ∷ spaced_behind xs

-- a word that does not stand first has a space before it
abbrev pub space_before : ℕ → List ℕ
space_before at = cond (at == 0) [] (32 ∷ [])

-- a letter for each point, from a list
abbrev pub from_list : List Letter → Letters
from_list letters p = get_or letters p Unknown

-- The letters of points outside a part stay.
abbrev pub KeptOutside : List Letter → List Letter → ℕ → ℕ → Type 0
KeptOutside old new start end = (p : ℕ) → (p < start) ⊎ (end ≤ p) → from_list new p ≡ from_list old p

-- The first n points are driven by the letters x, and the rest stays.
pub record Drives (n : ℕ) (x h u : Letters) : Type 0 where
  pub inputs : (p : ℕ) → p < n → u p ≡ x p
  pub kept : (p : ℕ) → n ≤ p → u p ≡ h p
