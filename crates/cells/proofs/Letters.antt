-- Lists of cells of any type, and the letters that they give. Assumes nothing.
use Rattle.std.specs.Prelude.{◌≡◌, ℕ, ◌+◌, ◌<◌, List, [], ◌∷◌, ◌++◌, length, take, slice_index_or, slice_set}
use Rattle.std.proofs.Common.{◌∙◌, arith}
use Rattle.std.proofs.Math.Path.{refl}
use Rattle.std.proofs.lemmas.List.{map_push, take_more, take_more_set, length-set, drop-set-lt}
use Rattle.std.proofs.lemmas.Grind.{drop_more_same}
use Rattle.level.specs.declared.letter.Letter.{Letter}
use Rattle.level.specs.declared.Level.{Ghosts}
use Rattle.store.specs.Settle.{column}
use Rattle.cells.specs.Cells.{letters_after, letters_of}
use Rattle.cells.specs.Fill.{Filled}

module _ {C : Type 0} (letter : C → List Letter → List Letter → Letter) (leaves : List Letter) where
  -- more cells after some
  pub letters_append : (cells more : List C) (before : List Letter) → letters_after letter leaves (cells ++ more) before ≡ letters_after letter leaves more (letters_after letter leaves cells before)
  unfolding letters_after
  letters_append [] more before = refl
  letters_append (c ∷ cells) more before = letters_append cells more (before ++ letter c leaves before ∷ [])

  -- one cell more
  pub letters_push : (cells : List C) (c : C) → letters_of letter leaves (cells ++ c ∷ []) ≡ letters_of letter leaves cells ++ letter c leaves (letters_of letter leaves cells) ∷ []
  unfolding letters_after
  letters_push cells c = letters_append cells (c ∷ []) []

module _ {X C : Type 0} (L : Ghosts X) (letter : C → List Letter → List Letter → Letter) (cells : List C) where
  pub filled_none : (leaves old : List X) → Filled L letter cells leaves old old 0
  unfolding letters_after
  filled_none leaves old = record { lanewise = λ k h. refl; rest = refl; long = refl }

  -- one row more
  pub filled_more : (leaves old work : List X) (i : ℕ) (v : X) (c : C) → i < length cells → i < length work → c ≡ slice_index_or cells i c → Filled L letter cells leaves old work i → ((k : ℕ) → k < L.LANES → L.letters v k ≡ letter c (column L k leaves) (column L k (take i work))) → Filled L letter cells leaves old (slice_set work i v) (i + 1)
  filled_more leaves old work i v c hc hw at_i f level = record {
    lanewise = λ k h.
        let x : List Letter = column L k leaves in
        grind (arith, level k h, f.lanewise k h, take_more_set work i v hw, map_push (λ w. L.letters w k) (take i work) v, letters_push letter x (take i cells) c, take_more cells i c hc);
    rest = drop-set-lt (i + 1) work i v (omega arith) ∙ drop_more_same work old i f.rest;
    long = length-set work i v ∙ f.long;
  }
