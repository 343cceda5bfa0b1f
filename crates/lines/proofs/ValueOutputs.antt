-- Outputs written in parts. Assumes nothing.
use Rattle.std.proofs.Common.{◌≡◌, ℕ, ◌+◌, ◌<◌, ◌≤◌, List, [], ◌∷◌, ◌++◌, length, get_or, take, drop, sym, refl, ap, ◌∙◌, subst, arith}
use Rattle.std.proofs.lemmas.List.{append-nil, append_assoc, length-append, length-map, length-take-le, map-append, take_more, take_all, take-append-drop, drop-drop}
use Rattle.level.specs.declared.ternary.Ternary.{Ternary}
use Rattle.level.specs.Letters.{symbol_of}
use Rattle.lines.specs.Cursors.{GotBytes, level_characters}
use Rattle.lines.specs.Lines.{Printed}

-- nothing is written
pub wrote_nothing : (at : ℕ) (old : List ℕ) → GotBytes [] at at old old
wrote_nothing at old = record { count = omega arith; before = sym (append-nil (take at old)); behind = refl }

-- behind a later place nothing changed either
drop_later : (xs ys : List ℕ) (n k : ℕ) → drop n xs ≡ drop n ys → drop (n + k) xs ≡ drop (n + k) ys
drop_later xs ys n k e = sym (drop-drop k n xs) ∙ ap (drop k) e ∙ drop-drop k n ys

-- a part is written behind another
pub wrote_more : (a b : List ℕ) (at n m : ℕ) (old mid new : List ℕ) → GotBytes a at n old mid → GotBytes b n m mid new → GotBytes (a ++ b) at m old new
wrote_more a b at n m old mid new first second = record {
  count = omega (arith, length-append a b);
  before = second.before ∙ ap (λ t. t ++ b) first.before ∙ append_assoc (take at old) a b;
  behind = second.behind ∙ subst (λ k. drop k mid ≡ drop k old) (sym second.count) (drop_later mid old n (length b) first.behind);
}

pub wrote_same : (a b : List ℕ) (at n : ℕ) (old new : List ℕ) → a ≡ b → GotBytes a at n old new → GotBytes b at n old new
wrote_same a b at n old new e = subst (λ t. GotBytes t at n old new) e

-- what is written from the front is printed
pub printed_from_front : (word : List ℕ) (n : ℕ) (old new : List ℕ) → GotBytes word 0 n old new → Printed word n old new
printed_from_front word n old new w = record {
  count = omega (arith, w.count);
  written = sym (take-append-drop n new) ∙ ap (λ t. t ++ drop n new) w.before ∙ ap (λ t. word ++ t) w.behind;
}

-- one level more
module _ (levels : List Ternary) (i : ℕ) where
  length_characters : i ≤ length levels → length (level_characters (take i levels)) ≡ i
  length_characters h = length-map (take i levels) (λ (level : Ternary). symbol_of level.0) ∙ length-take-le i levels h

  module _ (at n : ℕ) (old mid : List ℕ) (w : GotBytes (level_characters (take i levels)) at n old mid) where
    pub levels_room : i < length levels → n ≡ at + i
    levels_room h = let z = length_characters (omega arith) in omega (arith, w.count)

    pub levels_turn : (none : Ternary) (character m : ℕ) (new : List ℕ) → i < length levels → character ≡ symbol_of (get_or levels i none).0 → GotBytes (character ∷ []) n m mid new → GotBytes (level_characters (take (i + 1) levels)) at m old new
    levels_turn none character m new h is one =
        wrote_same (level_characters (take i levels) ++ character ∷ []) (level_characters (take (i + 1) levels)) at m old new
        (ap (λ c. level_characters (take i levels) ++ c ∷ []) is
        ∙ sym (ap level_characters (take_more levels i none h) ∙ map-append (λ (level : Ternary). symbol_of level.0) (take i levels) (get_or levels i none ∷ [])))
        (wrote_more (level_characters (take i levels)) (character ∷ []) at n m old mid new w one)

    pub levels_end : length levels ≤ i → GotBytes (level_characters levels) at n old mid
    levels_end h = wrote_same (level_characters (take i levels)) (level_characters levels) at n old mid (ap level_characters (take_all i levels h)) w
