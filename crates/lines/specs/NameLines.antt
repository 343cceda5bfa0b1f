-- The names of a class one by one, and bytes written into an output. Assumes nothing.
use Rattle.std.specs.Prelude.{◌≡◌, ℕ, ◌+◌, ◌==◌, List, [], ◌∷◌, ◌++◌, map, length, take, drop, Some, filter}
use Rattle.grammar.specs.declared.draft.Class.{Class}
use Rattle.grammar.specs.declared.draft.Class.TheVariants.{Output, Memory, Bus}
use Rattle.database.specs.Rows.{Database}
use Rattle.control.specs.Points.{rank, rank_of, row_numbers}
use Rattle.lines.specs.Lines.{upper, symbol_name, steps_word}

-- the names of the symbols of a class behind the first so many rows
abbrev pub names_behind : List ℕ → Database → Class → ℕ → List (List ℕ)
names_behind text d c rows = map (symbol_name text d) (filter (λ y. rank_of d y == rank (Some c)) (drop rows (row_numbers d.symbols)))

-- the classes that are printed, in their order
abbrev pub printed_classes : List Class
printed_classes = Memory ∷ Bus ∷ Output ∷ []

-- what ends the printed line
abbrev pub steps_end : List ℕ
steps_end = steps_word ++ 10 ∷ []

-- words with these bytes before the first, and a space before each other one
abbrev pub opened : List ℕ → List (List ℕ) → List ℕ
opened before [] = []
opened before (x ∷ xs) = before ++ (x ++ opened (32 ∷ []) xs)

-- what an output holds once these bytes are written at a place
abbrev pub written_at : List ℕ → ℕ → List ℕ → List ℕ
written_at old at bytes = take at old ++ (bytes ++ drop (at + length bytes) old)

-- a line is a word, both cases alike, and then this rest
abbrev pub GoesOn : List ℕ → List ℕ → List ℕ → Type 0
GoesOn line word rest = map upper line ≡ map upper word ++ rest
