-- Words read from a place of a line on. Assumes nothing.
use Rattle.std.proofs.Common.{◌≡◌, ℕ, ◌+◌, ◌-◌, ◌<◌, ◌≤◌, List, ◌++◌, length, get_or, take, drop, Option, Some, None, IfSome, IfNone, IsTrue, Bool, true, false, sym, refl, ap, ◌∙◌, subst, inl, inr, arith}
use Rattle.std.specs.Bool.{then_some}
use Rattle.std.proofs.lemmas.List.{append_assoc, length-append, length-drop, length-map, length-take-le, drop_at, take_at, drop-drop, get_or-take, get_or-drop, get_or-map, get_or_append_left, get_or-append-add}
use Rattle.level.specs.declared.letter.Letter.{Letter}
use Rattle.level.specs.declared.letter.Letter.TheVariants.{Zero, One, Unknown}
use Rattle.level.specs.Letters.{symbol_of}
use Rattle.lines.specs.Cursors.{Has, characters, from_list, KeptOutside}
use Rattle.lines.specs.Lines.{letter_of}

-- a word is read behind another
pub has_more : (a b line : List ℕ) (at n m : ℕ) → Has a line at n → Has b line n m → Has (a ++ b) line at m
has_more a b line at n m first second = record {
  count = omega (arith, length-append a b, first.count, second.count);
  within = second.within;
  bytes = first.bytes ∙ ap (λ t. a ++ t) second.bytes ∙ sym (append_assoc a b (drop m line));
}

pub has_same : (a b line : List ℕ) (at n : ℕ) → a ≡ b → Has a line at n → Has b line at n
has_same a b line at n e = subst (λ t. Has t line at n) e

-- what stands behind a word that was read
pub behind_word : (a rest line : List ℕ) (at n : ℕ) → Has a line at n → drop at line ≡ a ++ rest → drop n line ≡ rest
behind_word a rest line at n h e =
    ap (λ m. drop m line) h.count ∙ sym (drop-drop (length a) at line) ∙ ap (drop (length a)) e ∙ drop_at a rest (length a) refl

-- of what was read behind a place, and of what could not be read
pub some_read : (found : Option ℕ) (P Q : ℕ → Type 0) → ((n : ℕ) → P n → Q n) → IfSome found P → IfSome found Q
some_read None P Q h p = p
some_read (Some n) P Q h p = h n p

pub none_read : (found : Option ℕ) (P Q : Type 0) → (P → Q) → IfNone found P → IfNone found Q
none_read None P Q h p = h p
none_read (Some n) P Q h p = p

-- of letters that are given where a test holds
pub given : (test : Bool) (letters : List Letter) (P : List Letter → Type 0) → (IsTrue test → P letters) → IfSome (then_some test letters) P
given true letters P h = h refl
given false letters P h = tt

pub not_given : (test : Bool) (letters : List Letter) (P : Type 0) → (¬ (IsTrue test) → P) → IfNone (then_some test letters) P
not_given true letters P h = tt
not_given false letters P h = h (λ e. cc)

-- letters written over a part of a list
abbrev pub written : List Letter → List Letter → ℕ → ℕ → List Letter
written old word start n = take start old ++ (word ++ drop n (drop start old))

module _ (old word : List Letter) (start n : ℕ) (fits : start + n ≤ length old) (long : length word ≡ n) where
  pub length_written : length (written old word start n) ≡ length old
  length_written =
      omega (
        arith,
        length-append (take start old) (word ++ drop n (drop start old)),
        length-append word (drop n (drop start old)),
        length-take-le start old (omega arith),
        length-drop n (drop start old),
        length-drop start old,
      )

  pub part_there : take n (drop start (written old word start n)) ≡ word
  part_there = ap (take n) (drop_at (take start old) (word ++ drop n (drop start old)) start (length-take-le start old (omega arith))) ∙ take_at word (drop n (drop start old)) n long

  before_part : (p : ℕ) → p < start → from_list (written old word start n) p ≡ from_list old p
  before_part p h =
      get_or_append_left (take start old) (word ++ drop n (drop start old)) Unknown p (omega (arith, length-take-le start old (omega arith)))
      ∙ get_or-take start old p Unknown h

  behind_part : (k : ℕ) → from_list (written old word start n) (start + (n + k)) ≡ from_list old (start + (n + k))
  behind_part k =
      let behind = drop n (drop start old) in
      ap (λ m. get_or (written old word start n) (m + (n + k)) Unknown) (sym (length-take-le start old (omega arith)))
      ∙ get_or-append-add (take start old) (word ++ behind) (n + k) Unknown
      ∙ ap (λ m. get_or (word ++ behind) (m + k) Unknown) (sym long)
      ∙ get_or-append-add word behind k Unknown
      ∙ get_or-drop n (drop start old) k Unknown
      ∙ get_or-drop start old (n + k) Unknown

  pub others_kept : KeptOutside old (written old word start n) start (start + n)
  others_kept p (inl h) = before_part p h
  others_kept p (inr h) = subst (λ q. from_list (written old word start n) q ≡ from_list old q) (let z : start + (n + (p - (start + n))) ≡ p = omega arith in z) (behind_part (p - (start + n)))

-- a character stands for the letter that it is of
read_back : (letter : Letter) → letter_of (symbol_of letter) ≡ Some letter
read_back Zero = refl
read_back One = refl
read_back Unknown = refl

module _ (line : List ℕ) (at : ℕ) (word : List Letter) (rest : List ℕ) (stands : drop at line ≡ characters word ++ rest) where
  -- each character of a word stands for a letter
  pub letter_there : (i : ℕ) → i < length word → letter_of (get_or line (at + i) 0) ≡ Some (get_or word i Unknown)
  letter_there i h =
      ap letter_of
      (sym (get_or-drop at line i 0) ∙ ap (λ t. get_or t i 0) stands
      ∙ get_or_append_left (characters word) rest 0 i (omega (arith, length-map word symbol_of))
      ∙ get_or-map symbol_of word i Unknown 0 h)
      ∙ read_back (get_or word i Unknown)
