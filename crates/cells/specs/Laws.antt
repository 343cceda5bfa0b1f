-- That a table of cells has a letter for each cell, which the law of a store asks. Assumes nothing.
use Rattle.std.specs.Prelude.{◌≡◌, ℕ, ◌+◌, List, [], ◌∷◌, ◌++◌, length}
use Rattle.std.proofs.Common.{◌∙◌, add-zero, zero-add, arith}
use Rattle.std.proofs.Math.Path.{sym}
use Rattle.std.proofs.lemmas.List.{length_push}
use Rattle.level.specs.declared.letter.Letter.{Letter}
use Rattle.cells.specs.Cells.{letters_after, table_meaning}

module _ {C : Type 0} (letter : C → List Letter → List Letter → Letter) where
  -- a letter for each cell
  pub letters_length : (leaves : List Letter) (cells : List C) (before : List Letter) → length (letters_after letter leaves cells before) ≡ length before + length cells
  unfolding letters_after
  letters_length leaves [] before = sym (add-zero (length before))
  letters_length leaves (c ∷ cells) before = letters_length leaves cells (before ++ letter c leaves before ∷ []) ∙ simp length_push (omega arith)

  -- so what a table means has as many letters as it says
  pub table_sized : (cells : List C) (limit : ℕ) (leaves : List Letter) → length ((table_meaning letter cells limit).signals leaves) ≡ (table_meaning letter cells limit).size
  table_sized cells limit leaves = letters_length leaves cells [] ∙ zero-add (length cells)
