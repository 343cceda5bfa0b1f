-- The lines of a bench: what is read and what is printed. Assumes nothing.
use Rattle.std.specs.Prelude.{◌≡◌, ℕ, ◌-◌, ◌<◌, ◌≤◌, Bool, cond, ◌&&◌, ◌||◌, nat_le, nat_lt, ◌==◌, List, [], ◌∷◌, ◌++◌, map, length, take, drop, Option, Some, None}
use Rattle.grammar.specs.declared.draft.Class.{Class}
use Rattle.grammar.specs.declared.draft.Class.TheVariants.{Input, Output, Memory, Bus}
use Rattle.level.specs.declared.letter.Letter.{Letter}
use Rattle.level.specs.declared.letter.Letter.TheVariants.{Zero, One, Unknown}
use Rattle.level.specs.Letters.{symbol_of}
use Rattle.database.specs.Rows.{Database, symbol}
use Rattle.control.specs.Points.{symbols_of, row_numbers, below, width_of, point_of, input_bits}
use Rattle.control.specs.Letters.{Letters}
use Rattle.control.specs.Rules.{step_letter, Settled, Follows}

-- words with one space between
abbrev pub with_spaces : List (List ℕ) → List ℕ
with_spaces [] = []
with_spaces (x ∷ []) = x
with_spaces (x ∷ y ∷ ys) = x ++ 32 ∷ with_spaces (y ∷ ys)

-- a line of words: byte 10 ends it
abbrev pub line_of : List (List ℕ) → List ℕ
line_of words = with_spaces words ++ 10 ∷ []

-- a letter in upper case, and any other byte as it is
abbrev pub upper : ℕ → ℕ
upper b = cond (nat_le 97 b && nat_le b 122) (b - 32) b

-- the name of a symbol, in upper case
abbrev pub symbol_name : List ℕ → Database → ℕ → List ℕ
symbol_name text d y = map upper (take (symbol d y).length (drop (symbol d y).place text))

abbrev pub names_of : List ℕ → Database → Class → List (List ℕ)
names_of text d c = map (symbol_name text d) (symbols_of d c)

-- the line of the inputs' names; it is matched with both cases alike
abbrev pub input_names : List ℕ → Database → List ℕ
input_names text d = line_of (names_of text d Input)

abbrev pub NamesInputs : List ℕ → Database → List ℕ → Type 0
NamesInputs text d line = map upper line ≡ input_names text d

-- the word STEPS
abbrev pub steps_word : List ℕ
steps_word = 83 ∷ 84 ∷ 69 ∷ 80 ∷ 83 ∷ []

-- the line of the names of memory, buses and outputs, and STEPS
abbrev pub printed_names : List ℕ → Database → List ℕ
printed_names text d = line_of (names_of text d Memory ++ names_of text d Bus ++ names_of text d Output ++ steps_word ∷ [])

-- the letters of a symbol, of the symbols of a class, and of the steps, each of these a word
abbrev pub symbol_word : Database → Letters → ℕ → List ℕ
symbol_word d w y = map (λ b. symbol_of (w (point_of d y b))) (below (width_of d y))

abbrev pub class_words : Database → Letters → Class → List (List ℕ)
class_words d w c = map (symbol_word d w) (symbols_of d c)

abbrev pub step_word : Database → Letters → List ℕ
step_word d w = map (λ s. symbol_of (step_letter d w s)) (row_numbers d.steps)

-- the line of these letters of the inputs
abbrev pub value_line : Database → Letters → List ℕ
value_line d x = line_of (class_words d x Input)

-- the line of the letters of memory, buses, outputs and steps
abbrev pub printed_letters : Database → Letters → List ℕ
printed_letters d w = line_of (class_words d w Memory ++ class_words d w Bus ++ class_words d w Output ++ step_word d w ∷ [])

-- the letter that a character stands for
abbrev pub letter_of : ℕ → Option Letter
letter_of b = cond (b == 48) (Some Zero) (cond (b == 49) (Some One) (cond (b == 88) (Some Unknown) None))

-- what an output holds: these bytes, and behind them what was there
pub record Printed (bytes : List ℕ) (n : ℕ) (old new : List ℕ) : Type 0 where
  pub count : n ≡ length bytes
  pub written : new ≡ bytes ++ drop n old

-- an output is shorter than 4,096 bytes, or than what is to be printed
abbrev pub is_narrow : List ℕ → ℕ → Bool
is_narrow bytes room = nat_lt room 4096 || nat_lt room (length bytes)

-- A value line played: its letters are driven, the letters w are printed, and then a clock leaves u held.
pub record PlaysLine (d : Database) (x h w u : Letters) : Type 0 where
  pub driven : Letters
  pub inputs : (p : ℕ) → p < input_bits d → driven p ≡ x p
  pub kept : (p : ℕ) → input_bits d ≤ p → driven p ≡ h p
  pub settled : Settled d driven w
  pub follows : Follows d w driven u
