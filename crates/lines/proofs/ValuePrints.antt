-- The words of a class, printed symbol by symbol, and the whole line. Assumes nothing.
use Rattle.std.proofs.Common.{◌≡◌, ℕ, zero, suc, ◌+◌, ◌-◌, ◌*◌, ◌<◌, ◌≤◌, Bool, true, false, cond, ◌==◌, List, [], ◌∷◌, ◌++◌, map, flat_map, length, get_or, take, Some, sym, ap, ◌∙◌, subst, arith}
use Rattle.std.proofs.lemmas.List.Concat.{flat_map-append}
use Rattle.std.proofs.lemmas.List.{append-nil, take_more, take_all, length-append, length-map, map-append}
use Rattle.level.specs.Letters.{symbol_of}
use Rattle.grammar.specs.declared.draft.Class.{Class}
use Rattle.grammar.specs.declared.draft.Class.TheVariants.{Input, Output, Memory, Bus}
use Rattle.least.specs.Each.{IsRow}
use Rattle.database.specs.Rows.{Database}
use Rattle.least.proofs.Finds.{length_numbered}
use Rattle.control.specs.Points.{rank, rank_of, row_numbers, symbols_of}
use Rattle.control.specs.Rules.{step_letter}
use Rattle.control.specs.Letters.{Letters}
use Rattle.control.specs.Usable.{Usable}
use Rattle.lines.specs.Cursors.{GotBytes, spaced_behind}
use Rattle.lines.specs.Lines.{symbol_word, class_words, step_word, printed_letters, Printed}
use Rattle.lines.specs.NameLines.{printed_classes}
use Rattle.lines.proofs.SpacedWords.{behind_append, line_parts}
use Rattle.lines.proofs.ValueOutputs.{wrote_nothing, wrote_more, wrote_same, printed_from_front}
use Rattle.lines.proofs.ValueParts.{length_word, narrow}
use Rattle.lines.proofs.ValueRows.{first_of, all_of, next_of, before, one_more, no_more, before_end, room_for, few_symbols}

-- one word more
spaced_more : (words : List (List ℕ)) (word : List ℕ) → spaced_behind (words ++ word ∷ []) ≡ spaced_behind words ++ (word ++ 32 ∷ [])
spaced_more words word = behind_append words (word ∷ [])

module _ (d : Database) (w : Letters) where
  module _ (c : Class) where
    -- what is printed before a symbol
    abbrev pub shown : ℕ → List ℕ
    shown y = spaced_behind (map (symbol_word d w) (before d c y))

    shown_more : (y : ℕ) → 1 ≤ y → rank_of d y == rank (Some c) ≡ true → shown (y + 1) ≡ shown y ++ (symbol_word d w y ++ 32 ∷ [])
    shown_more y row e =
        ap (λ ys. spaced_behind (map (symbol_word d w) ys)) (one_more d c y row e)
        ∙ ap spaced_behind (map-append (symbol_word d w) (before d c y) (y ∷ []))
        ∙ spaced_more (map (symbol_word d w) (before d c y)) (symbol_word d w y)

    module _ (u : Usable d) where
      -- a symbol has 32 letters at most
      length_symbol : (y : ℕ) → IsRow d.symbols y → length (symbol_word d w y ++ 32 ∷ []) ≤ 33
      length_symbol y row = omega (arith, length-append (symbol_word d w y) (32 ∷ []), length_word d w y, narrow d u y row)

      few_more : (n : ℕ) (picked : Bool) → first_of d c (suc n) ≡ first_of d c n ++ cond picked ((n + 1) ∷ []) [] → IsRow d.symbols (n + 1) → length (spaced_behind (map (symbol_word d w) (first_of d c n))) ≤ 33 * length (first_of d c n) → length (spaced_behind (map (symbol_word d w) (first_of d c (suc n)))) ≤ 33 * length (first_of d c (suc n))
      few_more n false e row h =
          let same : first_of d c (suc n) ≡ first_of d c n = e ∙ append-nil (first_of d c n) in
          subst (λ ys. length (spaced_behind (map (symbol_word d w) ys)) ≤ 33 * length ys) (sym same) h
      few_more n true e row h =
          subst (λ ys. length (spaced_behind (map (symbol_word d w) ys)) ≤ 33 * length ys) (sym e)
          (let words = map (symbol_word d w) (first_of d c n) in
          let word = symbol_word d w (n + 1) in
          let more = ap length (ap spaced_behind (map-append (symbol_word d w) (first_of d c n) ((n + 1) ∷ [])) ∙ spaced_more words word) in
          omega (arith, more, length-append (spaced_behind words) (word ++ 32 ∷ []), length_symbol (n + 1) row, length-append (first_of d c n) ((n + 1) ∷ [])))

      few_words : (n : ℕ) → n ≤ length d.symbols → length (spaced_behind (map (symbol_word d w) (first_of d c n))) ≤ 33 * length (first_of d c n)
      few_words zero h = omega arith
      few_words (suc n) h = few_more n (rank_of d (n + 1) == rank (Some c)) (next_of d c n) (omega arith, omega arith) (few_words n (omega arith))

      few_shown : (y : ℕ) → 1 ≤ y → y ≤ length d.symbols + 1 → length (shown y) ≤ 33 * length (before d c y)
      few_shown y row most = few_words (y - 1) (omega arith)

      class_few : length (spaced_behind (class_words d w c)) ≤ 33 * length (symbols_of d c)
      class_few = subst (λ ys. length (spaced_behind (map (symbol_word d w) ys)) ≤ 33 * length ys) (all_of d c) (few_words (length d.symbols) (omega arith))

      -- there is room for one symbol more
      pub symbol_room : (at n room y : ℕ) (old mid : List ℕ) → IsRow d.symbols y → rank_of d y == rank (Some c) ≡ true → at + 33 * length (symbols_of d c) ≤ room → GotBytes (shown y) at n old mid → n + 33 ≤ room
      symbol_room at n room y old mid row e h s =
          let z = few_shown y row.0 (let r = row.1 in omega arith) in
          let few = room_for d c y row.0 row.1 e in
          omega (arith, s.count)

    module _ (at n : ℕ) (old mid : List ℕ) (y : ℕ) (row : 1 ≤ y) (s : GotBytes (shown y) at n old mid) where
      pub symbol_shown : (m : ℕ) (new : List ℕ) → rank_of d y == rank (Some c) ≡ true → GotBytes (symbol_word d w y ++ 32 ∷ []) n m mid new → GotBytes (shown (y + 1)) at m old new
      symbol_shown m new e one =
          wrote_same (shown y ++ (symbol_word d w y ++ 32 ∷ [])) (shown (y + 1)) at m old new (sym (shown_more y row e))
          (wrote_more (shown y) (symbol_word d w y ++ 32 ∷ []) at n m old mid new s one)

      pub symbol_passed : rank_of d y == rank (Some c) ≡ false → GotBytes (shown (y + 1)) at n old mid
      symbol_passed e = wrote_same (shown y) (shown (y + 1)) at n old mid (ap (λ ys. spaced_behind (map (symbol_word d w) ys)) (sym (no_more d c y row e))) s

      pub class_shown : y ≡ length d.symbols + 1 → GotBytes (spaced_behind (class_words d w c)) at n old mid
      class_shown e = wrote_same (shown y) (spaced_behind (class_words d w c)) at n old mid (ap (λ ys. spaced_behind (map (symbol_word d w) ys)) (before_end d c y e)) s

  steps_few : Usable d → length (step_word d w) ≤ 64
  steps_few u = omega (arith, length-map (row_numbers d.steps) (λ s. symbol_of (step_letter d w s)), length_numbered (λ n x. n) d.steps, u.few_steps)

-- a line that is printed is short
pub record FewLetters (d : Database) (w : Letters) : Type 0 where
  pub symbols : length (symbols_of d Input) + length (symbols_of d Memory) + length (symbols_of d Bus) + length (symbols_of d Output) ≤ 64
  pub inputs : length (spaced_behind (class_words d w Input)) ≤ 33 * length (symbols_of d Input)
  pub memory : length (spaced_behind (class_words d w Memory)) ≤ 33 * length (symbols_of d Memory)
  pub buses : length (spaced_behind (class_words d w Bus)) ≤ 33 * length (symbols_of d Bus)
  pub outputs : length (spaced_behind (class_words d w Output)) ≤ 33 * length (symbols_of d Output)
  pub steps : length (step_word d w) ≤ 64

module _ (d : Database) (w : Letters) where
  pub few_letters : Usable d → FewLetters d w
  few_letters u = record {
    symbols = omega (arith, few_symbols d, u.few_symbols);
    inputs = class_few d w Input u;
    memory = class_few d w Memory u;
    buses = class_few d w Bus u;
    outputs = class_few d w Output u;
    steps = steps_few d w u;
  }

  -- what is printed of the first so many classes
  abbrev pub classes_shown : ℕ → List ℕ
  classes_shown i = spaced_behind (flat_map (class_words d w) (take i printed_classes))

  -- what is printed of the class at an index of these
  abbrev pub class_at : List Class → ℕ → List ℕ
  class_at classes i = spaced_behind (class_words d w (get_or classes i Input))

  classes_more : (i : ℕ) → i < 3 → classes_shown (i + 1) ≡ classes_shown i ++ class_at printed_classes i
  classes_more i h =
      let c = get_or printed_classes i Input in
      ap (λ cs. spaced_behind (flat_map (class_words d w) cs)) (take_more printed_classes i Input h)
      ∙ ap spaced_behind (flat_map-append (class_words d w) (take i printed_classes) (c ∷ []))
      ∙ behind_append (flat_map (class_words d w) (take i printed_classes)) (flat_map (class_words d w) (c ∷ []))
      ∙ ap (λ ws. classes_shown i ++ spaced_behind ws) (append-nil (class_words d w c))

  size_more : (i : ℕ) → i < 3 → length (classes_shown (i + 1)) ≡ length (classes_shown i) + length (class_at printed_classes i)
  size_more i h = ap length (classes_more i h) ∙ length-append (classes_shown i) (class_at printed_classes i)

  all_few : Usable d → length (classes_shown 3) ≤ 2112
  all_few u = let few = few_letters u in omega (arith, size_more 0 (omega arith), size_more 1 (omega arith), size_more 2 (omega arith))

  few_before : Usable d → (i : ℕ) → i < 3 → length (classes_shown i) + 33 * length (symbols_of d (get_or printed_classes i Input)) ≤ 2112
  few_before u zero h = let few = few_letters u in omega arith
  few_before u (suc zero) h = let few = few_letters u in omega (arith, size_more 0 (omega arith))
  few_before u (suc (suc zero)) h = let few = few_letters u in omega (arith, size_more 0 (omega arith), size_more 1 (omega arith))
  few_before u (suc (suc (suc n))) h = omega (arith, h)

  pub none_shown : (old : List ℕ) → GotBytes (classes_shown 0) 0 0 old old
  none_shown old = wrote_nothing 0 old

  module _ (end i : ℕ) (old mid : List ℕ) (s : GotBytes (classes_shown i) 0 end old mid) where
    pub class_room : Usable d → i < 3 → end + 33 * length (symbols_of d (get_or printed_classes i Input)) ≤ 4096
    class_room u h = omega (arith, s.count, few_before u i h)

    pub class_turn : (n : ℕ) (new : List ℕ) → i < 3 → GotBytes (class_at printed_classes i) end n mid new → GotBytes (classes_shown (i + 1)) 0 n old new
    class_turn n new h one =
        wrote_same (classes_shown i ++ class_at printed_classes i) (classes_shown (i + 1)) 0 n old new (sym (classes_more i h))
        (wrote_more (classes_shown i) (class_at printed_classes i) 0 end n old mid new s one)

    pub classes_end : 3 ≤ i → GotBytes (classes_shown 3) 0 end old mid
    classes_end h = wrote_same (classes_shown i) (classes_shown 3) 0 end old mid (ap (λ cs. spaced_behind (flat_map (class_words d w) cs)) (take_all i printed_classes h)) s

    pub steps_room : Usable d → 3 ≤ i → end + 64 ≤ 4096
    steps_room u h = let all = classes_end h in omega (arith, all.count, all_few u)

    -- the steps and the end of the line behind the classes
    pub line_shown : (steps n : ℕ) (out new : List ℕ) → 3 ≤ i → GotBytes (step_word d w) end steps mid out → GotBytes (10 ∷ []) steps n out new → Printed (printed_letters d w) n old new
    line_shown steps n out new h word last =
        printed_from_front (printed_letters d w) n old new
        (wrote_same (classes_shown 3 ++ (step_word d w ++ 10 ∷ [])) (printed_letters d w) 0 n old new (sym (line_parts (class_words d w) (step_word d w)))
        (wrote_more (classes_shown 3) (step_word d w ++ 10 ∷ []) 0 end n old mid new (classes_end h) (wrote_more (step_word d w) (10 ∷ []) end steps n mid out new word last)))

    pub end_room : Usable d → (steps : ℕ) (out : List ℕ) → 3 ≤ i → GotBytes (step_word d w) end steps mid out → steps < 4096
    end_room u steps out h word = let few = few_letters u in omega (arith, word.count, (classes_end h).count, all_few u)
