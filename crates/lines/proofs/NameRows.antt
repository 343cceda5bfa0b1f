-- The names of a class, row by row. Assumes nothing.
use Rattle.std.proofs.Common.{◌≡◌, ℕ, ◌+◌, ◌<◌, ◌≤◌, ◌==◌, Bool, true, false, cond, List, [], ◌∷◌, map, length, drop, Some, ap, ◌∙◌, arith}
use Rattle.std.specs.List.{filter}
use Rattle.std.proofs.lemmas.List.{at_drop_more, at_drop_all}
use Rattle.grammar.specs.declared.draft.Class.{Class}
use Rattle.least.proofs.Finds.{length_numbered, numbered_at}
use Rattle.database.specs.Rows.{Database, no_symbol}
use Rattle.control.specs.Points.{rank, rank_of, row_numbers}
use Rattle.lines.specs.Lines.{symbol_name}
use Rattle.lines.specs.NameLines.{names_behind}

module _ (text : List ℕ) (d : Database) (c : Class) (i : ℕ) where
  -- the names from the row on, where it is of the class or not
  abbrev from : Bool → List (List ℕ)
  from is = map (symbol_name text d) (cond is ((i + 1) ∷ filter (λ y. rank_of d y == rank (Some c)) (drop (i + 1) (row_numbers d.symbols))) (filter (λ y. rank_of d y == rank (Some c)) (drop (i + 1) (row_numbers d.symbols))))

  turn : i < length d.symbols → names_behind text d c i ≡ from (rank_of d (i + 1) == rank (Some c))
  turn h =
      let test : ℕ → Bool = λ y. rank_of d y == rank (Some c) in
      let rows = row_numbers d.symbols in
      at_drop_more (λ ys. map (symbol_name text d) (filter test ys)) rows i 0 (omega (arith, length_numbered (λ n x. n) d.symbols))
      ∙ ap (λ y. map (symbol_name text d) (filter test (y ∷ drop (i + 1) rows))) (numbered_at (λ n x. n) d.symbols i no_symbol 0 h)

  -- whether the row is of the class
  abbrev pub HasClass : Bool → Type 0
  HasClass is = (rank_of d (i + 1) == rank (Some c)) ≡ is

  tested : (is : Bool) → i < length d.symbols → HasClass is → names_behind text d c i ≡ from is
  tested is h e = turn h ∙ ap from e

  -- the row is of the class
  pub one_more : i < length d.symbols → HasClass true → names_behind text d c i ≡ symbol_name text d (i + 1) ∷ names_behind text d c (i + 1)
  one_more = tested true

  -- or it is not
  pub no_more : i < length d.symbols → HasClass false → names_behind text d c i ≡ names_behind text d c (i + 1)
  no_more = tested false

  -- there is no row
  pub none_left : length d.symbols ≤ i → names_behind text d c i ≡ []
  none_left h =
      at_drop_all (λ ys. map (symbol_name text d) (filter (λ y. rank_of d y == rank (Some c)) ys)) (row_numbers d.symbols) i (omega (arith, length_numbered (λ n x. n) d.symbols))
