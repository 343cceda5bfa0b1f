-- The parts of tables in which the letters of symbols and steps stand. Assumes nothing.
use Rattle.std.proofs.Common.{◌≡◌, ℕ, zero, suc, ◌+◌, ◌-◌, ◌<◌, ◌≤◌, List, [], ◌∷◌, ◌++◌, map, length, get_or, take, drop, sym, refl, ap, ap₂, ◌∙◌, arith}
use Rattle.std.proofs.lemmas.List.{length-append, length-drop, length-map, get_or-drop, get_or-map, map-append, take_more}
use Rattle.std.proofs.lemmas.Simd.{map-map}
use Rattle.level.specs.declared.letter.Letter.{Letter}
use Rattle.level.specs.declared.letter.Letter.TheVariants.{Unknown}
use Rattle.level.specs.declared.ternary.Ternary.{Ternary}
use Rattle.level.specs.Letters.{symbol_of}
use Rattle.least.specs.Each.{IsRow}
use Rattle.database.specs.Rows.{Database}
use Rattle.control.specs.Points.{below, width_of, base, all_bits}
use Rattle.control.specs.Letters.{Letters}
use Rattle.control.specs.Usable.{Usable}
use Rattle.settling.proofs.Points.{ends_within, bits_few}
use Rattle.control.specs.Levels.{lane}
use Rattle.level.specs.contracts.ternary.TernaryLevel.TheImpl.{ghosts as ternary}
use Rattle.lines.specs.Cursors.{GotBytes, level_characters, characters, from_list}
use Rattle.lines.specs.Lines.{symbol_word, step_word}
use Rattle.lines.proofs.ValueOutputs.{wrote_more, wrote_same}
use Rattle.lines.proofs.ValueReads.{written, length_written, part_there}
use Rattle.lines.proofs.ValueRows.{up, row_numbers_are}

-- a part of a list, element by element
module _ {A B : Type 0} (f : A → B) (g : ℕ → B) (xs : List A) (none : A) (same : (p : ℕ) → p < length xs → g p ≡ f (get_or xs p none)) where
  part_of : (first n : ℕ) → first + n ≤ length xs → map (λ b. g (first + b)) (below n) ≡ map f (take n (drop first xs))
  part_of first zero h = refl
  part_of first (suc n) h =
      map-append (λ b. g (first + b)) (below n) (n ∷ [])
      ∙ ap₂ (λ t x. t ++ x ∷ []) (part_of first n (omega arith)) (same (first + n) (omega arith) ∙ ap f (sym (get_or-drop first xs n none)))
      ∙ sym (map-append f (take n (drop first xs)) (get_or (drop first xs) n none ∷ []))
      ∙ ap (map f) (sym (take_more (drop first xs) n none (omega (arith, length-drop first xs))))
      ∙ ap (λ k. map f (take k (drop first xs))) (let z : n + 1 ≡ suc n = omega arith in z)

-- numbers from 1 on, less 1
numbers_less : {B : Type 0} (g : ℕ → B) (n : ℕ) → map (λ s. g (s - 1)) (up n) ≡ map g (below n)
numbers_less g zero = refl
numbers_less g (suc n) =
    map-append (λ s. g (s - 1)) (up n) ((n + 1) ∷ [])
    ∙ ap₂ (λ t k. t ++ g k ∷ []) (numbers_less g n) (let z : n + 1 - 1 ≡ n = omega arith in z)
    ∙ sym (map-append g (below n) (n ∷ []))

length_below : (n : ℕ) → length (below n) ≡ n
length_below zero = refl
length_below (suc n) = omega (arith, length-append (below n) (n ∷ []), length_below n)

module _ (d : Database) where
  pub length_word : (w : Letters) (y : ℕ) → length (symbol_word d w y) ≡ width_of d y
  length_word w y = length-map (below (width_of d y)) (λ b. symbol_of (w (base d y + b))) ∙ length_below (width_of d y)

  module _ (u : Usable d) where
    pub few_points : (y : ℕ) → IsRow d.symbols y → base d y + width_of d y ≤ 1024
    few_points y row = omega (arith, ends_within d y row, bits_few d u)

    pub narrow : (y : ℕ) → IsRow d.symbols y → width_of d y ≤ 32
    narrow y row = let z = (u.symbols y row).width in omega (arith, z.1)

    pub wide : (y : ℕ) → IsRow d.symbols y → 1 ≤ width_of d y
    wide y row = let z = (u.symbols y row).width in omega (arith, z.0)

  listed_characters : (letters : List Letter) (y : ℕ) → base d y + width_of d y ≤ length letters → symbol_word d (from_list letters) y ≡ characters (take (width_of d y) (drop (base d y) letters))
  listed_characters letters y h = part_of symbol_of (λ p. symbol_of (from_list letters p)) letters Unknown (λ p l. refl) (base d y) (width_of d y) h

  -- a word read over the points of a symbol is its word
  pub symbol_written : (old word : List Letter) (y start n : ℕ) → start ≡ base d y → n ≡ width_of d y → start + n ≤ length old → length word ≡ n → symbol_word d (from_list (written old word start n)) y ≡ characters word
  symbol_written old word y start n first wide fits long =
      let news = written old word start n in
      listed_characters news y (omega (arith, length_written old word start n fits long))
      ∙ ap₂ (λ m from. characters (take m (drop from news))) (sym wide) (sym first)
      ∙ ap characters (part_there old word start n fits long)

  -- a word is the characters of letters
  abbrev pub letters_of : Letters → ℕ → List Letter
  letters_of x y = map (λ b. x (base d y + b)) (below (width_of d y))

  pub word_of : (x : Letters) (y : ℕ) → symbol_word d x y ≡ characters (letters_of x y)
  word_of x y = sym (map-map symbol_of (λ b. x (base d y + b)) (below (width_of d y)))

  pub length_letters : (x : Letters) (y : ℕ) → length (letters_of x y) ≡ width_of d y
  length_letters x y = length-map (below (width_of d y)) (λ b. x (base d y + b)) ∙ length_below (width_of d y)

-- the letter of a level's row
level_at : (work : List Ternary) (p : ℕ) → p < length work → symbol_of (lane ternary work 0 p) ≡ symbol_of (get_or work p record { 0 = Unknown }).0
level_at work p h = ap symbol_of (get_or-map (λ (level : Ternary). level.0) work p record { 0 = Unknown } Unknown h)

module _ (d : Database) (work : List Ternary) where
  symbol_characters : (y : ℕ) → base d y + width_of d y ≤ length work → symbol_word d (lane ternary work 0) y ≡ level_characters (take (width_of d y) (drop (base d y) work))
  symbol_characters y h = part_of (λ (level : Ternary). symbol_of level.0) (λ p. symbol_of (lane ternary work 0 p)) work record { 0 = Unknown } (level_at work) (base d y) (width_of d y) h

  step_characters : all_bits d + length d.steps ≤ length work → step_word d (lane ternary work 0) ≡ level_characters (take (length d.steps) (drop (all_bits d) work))
  step_characters h =
      ap (map (λ s. symbol_of (lane ternary work 0 (all_bits d + (s - 1))))) (row_numbers_are d.steps)
      ∙ numbers_less (λ b. symbol_of (lane ternary work 0 (all_bits d + b))) (length d.steps)
      ∙ part_of (λ (level : Ternary). symbol_of level.0) (λ p. symbol_of (lane ternary work 0 p)) work record { 0 = Unknown } (level_at work) (all_bits d) (length d.steps) h

  module _ (u : Usable d) (room : 17472 ≤ length work) (at n : ℕ) (old mid : List ℕ) where
    -- the levels of a symbol's points, and a space behind them
    pub symbol_printed : (y start end m : ℕ) (new : List ℕ) → GotBytes (level_characters (take (end - start) (drop start work))) at n old mid → GotBytes (32 ∷ []) n m mid new → IsRow d.symbols y → start ≡ base d y → end ≡ base d y + width_of d y → GotBytes (symbol_word d (lane ternary work 0) y ++ 32 ∷ []) at m old new
    symbol_printed y start end m new levels space row first last =
        let few = few_points d u y row in
        let width : end - start ≡ width_of d y = omega arith in
        wrote_more (symbol_word d (lane ternary work 0) y) (32 ∷ []) at n m old mid new
        (wrote_same (level_characters (take (end - start) (drop start work))) (symbol_word d (lane ternary work 0) y) at n old mid
        (ap₂ (λ k from. level_characters (take k (drop from work))) width first ∙ sym (symbol_characters y (omega arith))) levels)
        space

    -- the levels of the steps' points
    pub steps_printed : (first count : ℕ) → GotBytes (level_characters (take (first + count - first) (drop first work))) at n old mid → first ≡ all_bits d → count ≡ length d.steps → GotBytes (step_word d (lane ternary work 0)) at n old mid
    steps_printed first count levels from all =
        let few = bits_few d u in
        let steps = u.few_steps in
        let width : first + count - first ≡ length d.steps = omega arith in
        wrote_same (level_characters (take (first + count - first) (drop first work))) (step_word d (lane ternary work 0)) at n old mid
        (ap₂ (λ k start. level_characters (take k (drop start work))) width from ∙ sym (step_characters (omega arith))) levels
