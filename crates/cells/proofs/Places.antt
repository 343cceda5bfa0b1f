-- Tables that grow by some cells. Assumes nothing.
use Rattle.std.proofs.Common.{◌≡◌, ℕ, ◌+◌, ◌<◌, ◌≤◌, ◌-◌, rules, Bool, false, List, [], ◌∷◌, ◌++◌, length, get_or, take, None, ap, ◌∙◌, arith}
use Rattle.std.proofs.lemmas.Grind.{common_steps}
use Rattle.std.proofs.lemmas.List.{length-append, take_all, take-take}
use Rattle.level.specs.declared.letter.Letter.{Letter}
use Rattle.store.specs.declared.part.PartKind.{PartKind}
use Rattle.store.specs.Meaning.{Meaning, at}
use Rattle.store.specs.Parts.{kind_at, missing, part_letter}
use Rattle.store.specs.Place.{Placed, place_refusal}
use Rattle.cells.specs.Cells.{Sound, letters_after, letters_of, table_meaning}
use Rattle.cells.specs.Laws.{letters_length}
use Rattle.cells.proofs.Letters.{letters_append}

-- no cell dangles, with more cells, of which none dangles
pub sound_more : {C : Type 0} (dangles : ℕ → C → Bool) (more cells : List C) → Sound dangles cells → ((n : ℕ) (c : C) → n < length more → dangles (length cells + n) (get_or more n c) ≡ false) → Sound dangles (cells ++ more)
sound_more dangles more cells old here n c h = grind (arith, common_steps, old n c, here (n - length cells) c)

-- nothing speaks against a part
pub none_against : (price : PartKind → ℕ) (code a b : ℕ) (m : Meaning) → code ≤ 6 → missing (kind_at code) a b m.size ≡ false → price (kind_at code) ≤ m.free → place_refusal price code a b m ≡ None
none_against = search rules

module _ {C : Type 0} (letter : C → List Letter → List Letter → Letter) where
  -- the letters before more cells stay
  pub letters_stay : (leaves : List Letter) (more : List C) (before : List Letter) → take (length before) (letters_after letter leaves more before) ≡ before
  unfolding letters_after
  letters_stay leaves [] before = take_all (length before) before (omega arith)
  letters_stay leaves (c ∷ more) before =
      let next : List Letter = before ++ letter c leaves before ∷ [] in
      let all : List Letter = letters_after letter leaves more next in
      grind (arith, common_steps, letters_stay leaves more next, take-take (length before) (length next) all)

  -- a table that grew by the cells of a part
  pub placed_by : (price : PartKind → ℕ) (code a b : ℕ) (cells more new : List C) (limit limit' signal : ℕ) → new ≡ cells ++ more → limit' ≡ limit → place_refusal price code a b (table_meaning letter cells limit) ≡ None → length more ≤ price (kind_at code) → signal < length new → ((leaves : List Letter) → at (letters_of letter leaves new) signal ≡ part_letter (kind_at code) a b leaves (letters_of letter leaves cells)) → Placed price code a b (table_meaning letter cells limit) (table_meaning letter new limit') signal
  placed_by price code a b cells more new limit limit' signal e same allowed few there means =
      let longer : length new ≡ length cells + length more = ap length e ∙ length-append cells more in
      record {
        allowed = allowed;
        there = there;
        letter = means;
        stays = λ leaves. grind (arith, letters_append letter leaves cells more [], letters_stay leaves more (letters_of letter leaves cells), letters_length letter leaves cells []);
        longer = omega arith;
        grown = omega arith;
        falls = omega arith;
        spent = omega arith;
      }
