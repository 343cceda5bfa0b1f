-- The line of values, word by word. Assumes nothing.
use Rattle.std.proofs.Common.{◌≡◌, ◌⊎◌, ℕ, zero, suc, ◌+◌, ◌-◌, ◌<◌, ◌≤◌, Bool, true, false, cond, ◌==◌, List, [], ◌∷◌, ◌++◌, map, length, drop, Some, sym, refl, ap, ap₂, ◌∙◌, subst, inl, inr, ⊎_elim, ne_eqb, arith}
use Rattle.std.proofs.lemmas.Bool.{cases_lt, cond-false}
use Rattle.std.proofs.lemmas.List.{append-nil, append_assoc, length-append, map-append, drop_at}
use Rattle.level.specs.declared.letter.Letter.{Letter}
use Rattle.level.specs.Letters.{symbol_of}
use Rattle.grammar.specs.declared.draft.Class.TheVariants.{Input}
use Rattle.least.specs.Each.{IsRow}
use Rattle.database.specs.Rows.{Database}
use Rattle.control.specs.Points.{rank, rank_of, width_of, base, point_of, below}
use Rattle.control.specs.Letters.{Letters}
use Rattle.control.specs.Usable.{Usable}
use Rattle.settling.proofs.Points.{apart}
use Rattle.lines.specs.Cursors.{Has, space_before, from_list, KeptOutside}
use Rattle.lines.specs.Lines.{with_spaces, symbol_word, value_line}
use Rattle.lines.proofs.ValueParts.{length_word, wide}
use Rattle.lines.proofs.ValueReads.{has_same, has_more}
use Rattle.lines.proofs.ValueRows.{first_of, next_of, all_of, before, one_more, no_more, before_end, begins_all}

-- what stands before a word behind these
abbrev between : List (List ℕ) → List ℕ
between [] = []
between (x ∷ xs) = 32 ∷ []

-- one word more
spaced_push : (words : List (List ℕ)) (word : List ℕ) → with_spaces (words ++ word ∷ []) ≡ with_spaces words ++ (between words ++ word)
spaced_push [] word = refl
spaced_push (x ∷ []) word = refl
spaced_push (x ∷ y ∷ ys) word = ap (λ t. x ++ 32 ∷ t) (spaced_push (y ∷ ys) word) ∙ sym (append_assoc x (32 ∷ with_spaces (y ∷ ys)) (32 ∷ word))

-- words begin with the first of them
spaced_begins : (words others : List (List ℕ)) → (rest : List ℕ) × (with_spaces (words ++ others) ≡ with_spaces words ++ rest)
spaced_begins [] others = (with_spaces others, refl)
spaced_begins (x ∷ []) [] = ([], sym (append-nil x))
spaced_begins (x ∷ []) (y ∷ ys) = (32 ∷ with_spaces (y ∷ ys), refl)
spaced_begins (x ∷ y ∷ ys) others =
    let (rest, e) = spaced_begins (y ∷ ys) others in
    (rest, ap (λ t. x ++ 32 ∷ t) e ∙ sym (append_assoc x (32 ∷ with_spaces (y ∷ ys)) rest))

gap_behind : (n : ℕ) → 1 ≤ n → space_before n ≡ 32 ∷ []
gap_behind n h = cond-false (n == 0) [] (32 ∷ []) (ne_eqb n 0 (λ e. omega arith))

module _ (d : Database) where
  module _ (x : Letters) where
    -- the words of these symbols
    abbrev words : List ℕ → List (List ℕ)
    words ys = map (symbol_word d x) ys

    words_push : (ys : List ℕ) (y : ℕ) → with_spaces (words (ys ++ y ∷ [])) ≡ with_spaces (words ys) ++ (between (words ys) ++ symbol_word d x y)
    words_push ys y = ap with_spaces (map-append (symbol_word d x) ys (y ∷ [])) ∙ spaced_push (words ys) (symbol_word d x y)

    module _ (u : Usable d) where
      some_more : (n : ℕ) (picked : Bool) → first_of d Input (suc n) ≡ first_of d Input n ++ cond picked ((n + 1) ∷ []) [] → IsRow d.symbols (n + 1) → (1 ≤ length (first_of d Input n) → 1 ≤ length (with_spaces (words (first_of d Input n)))) → 1 ≤ length (first_of d Input (suc n)) → 1 ≤ length (with_spaces (words (first_of d Input (suc n))))
      some_more n false e row h some =
          let same : first_of d Input (suc n) ≡ first_of d Input n = e ∙ append-nil (first_of d Input n) in
          subst (λ ys. 1 ≤ length ys → 1 ≤ length (with_spaces (words ys))) (sym same) h some
      some_more n true e row h some =
          let ys = first_of d Input n in
          let push = ap length (ap (λ zs. with_spaces (words zs)) e ∙ words_push ys (n + 1)) in
          omega (arith, push, length-append (with_spaces (words ys)) (between (words ys) ++ symbol_word d x (n + 1)), length-append (between (words ys)) (symbol_word d x (n + 1)), length_word d x (n + 1), wide d u (n + 1) row)

      some : (n : ℕ) → n ≤ length d.symbols → 1 ≤ length (first_of d Input n) → 1 ≤ length (with_spaces (words (first_of d Input n)))
      some zero h picked = absurd (omega arith)
      some (suc n) h picked = some_more n (rank_of d (n + 1) == rank (Some Input)) (next_of d Input n) (omega arith, omega arith) (some n (omega arith)) picked

      between_is : (ys : List ℕ) → (1 ≤ length ys → 1 ≤ length (with_spaces (words ys))) → between (words ys) ≡ space_before (length (with_spaces (words ys)))
      between_is [] h = refl
      between_is (z ∷ zs) h = sym (gap_behind (length (with_spaces (words (z ∷ zs)))) (h (omega arith)))

      -- one input more
      input_more : (y : ℕ) → IsRow d.symbols y → rank_of d y == rank (Some Input) ≡ true → with_spaces (words (before d Input (y + 1))) ≡ with_spaces (words (before d Input y)) ++ (space_before (length (with_spaces (words (before d Input y)))) ++ symbol_word d x y)
      input_more y row e =
          let ys = before d Input y in
          ap (λ zs. with_spaces (words zs)) (one_more d Input y row.0 e) ∙ words_push ys y
          ∙ ap (λ t. with_spaces (words ys) ++ (t ++ symbol_word d x y)) (between_is ys (some (y - 1) (let m = row.1 in omega arith)))

    -- the line begins with the words of the first inputs
    line_begins : (n : ℕ) → n ≤ length d.symbols → (rest : List ℕ) × (value_line d x ≡ with_spaces (words (first_of d Input n)) ++ rest)
    line_begins n h =
        let (others, all) = begins_all d Input n (length d.symbols) h in
        let (rest, begins) = spaced_begins (words (first_of d Input n)) (words others) in (
          rest ++ 10 ∷ [],
          ap (λ ys. with_spaces (words ys) ++ 10 ∷ []) (sym (all_of d Input) ∙ all)
              ∙ ap (λ t. with_spaces t ++ 10 ∷ []) (map-append (symbol_word d x) (first_of d Input n) others)
              ∙ ap (λ t. t ++ 10 ∷ []) begins
              ∙ append_assoc (with_spaces (words (first_of d Input n))) rest (10 ∷ []),
        )

  -- words of the same symbols are equally long
  same_length : (x z : Letters) (ys : List ℕ) → length (with_spaces (words x ys)) ≡ length (with_spaces (words z ys))
  same_length x z [] = refl
  same_length x z (y ∷ []) = length_word d x y ∙ sym (length_word d z y)
  same_length x z (y ∷ v ∷ vs) =
      omega (
        arith,
        length_word d x y,
        length_word d z y,
        same_length x z (v ∷ vs),
        length-append (symbol_word d x y) (32 ∷ with_spaces (words x (v ∷ vs))),
        length-append (symbol_word d z y) (32 ∷ with_spaces (words z (v ∷ vs))),
      )

-- the same letters make the same words
map_below : (f g : ℕ → ℕ) (n : ℕ) → ((b : ℕ) → b < n → f b ≡ g b) → map f (below n) ≡ map g (below n)
map_below f g zero h = refl
map_below f g (suc n) h =
    map-append f (below n) (n ∷ []) ∙ ap₂ (λ t c. t ++ c ∷ []) (map_below f g n (λ b l. h b (omega arith))) (h n (omega arith)) ∙ sym (map-append g (below n) (n ∷ []))

-- a point is outside of a part whose points it is none of
outside : (first n p : ℕ) → ((c : ℕ) → c < n → ¬ (p ≡ first + c)) → (p < first) ⊎ (first + n ≤ p)
outside first n p h =
    ⊎_elim (λ l. inl l)
    (λ l. ⊎_elim (λ k. absurd (h (p - first) (omega arith) (omega arith))) (λ k. inr k) (cases_lt p (first + n)))
    (cases_lt p first)

module _ (d : Database) (x z : Letters) where
  one_agrees : (picked : Bool) (y : ℕ) → symbol_word d x y ≡ symbol_word d z y → words d x (cond picked (y ∷ []) []) ≡ words d z (cond picked (y ∷ []) [])
  one_agrees true y h = ap (λ t. t ∷ []) h
  one_agrees false y h = refl

  same_word : (y : ℕ) → ((b : ℕ) → b < width_of d y → x (point_of d y b) ≡ z (point_of d y b)) → symbol_word d x y ≡ symbol_word d z y
  same_word y h = map_below (λ b. symbol_of (x (point_of d y b))) (λ b. symbol_of (z (point_of d y b))) (width_of d y) (λ b l. ap symbol_of (h b l))

  words_agree : (n : ℕ) → ((y : ℕ) → 1 ≤ y → y ≤ n → symbol_word d x y ≡ symbol_word d z y) → words d x (first_of d Input n) ≡ words d z (first_of d Input n)
  words_agree zero h = refl
  words_agree (suc n) h =
      let ys = first_of d Input n in
      let more = cond (rank_of d (n + 1) == rank (Some Input)) ((n + 1) ∷ []) [] in
      ap (words d x) (next_of d Input n) ∙ map-append (symbol_word d x) ys more
      ∙ ap₂ (λ a b. a ++ b) (words_agree n (λ y row l. h y row (omega arith))) (one_agrees (rank_of d (n + 1) == rank (Some Input)) (n + 1) (h (n + 1) (omega arith) (omega arith)))
      ∙ sym (ap (words d z) (next_of d Input n) ∙ map-append (symbol_word d z) ys more)

-- what a line of these letters has before a symbol
abbrev pub front : Database → Letters → ℕ → List ℕ
front d x y = with_spaces (map (symbol_word d x) (before d Input y))

-- letters at the points of a symbol do not show in the words before it
front_kept : (d : Database) (letters news : List Letter) (y : ℕ) → IsRow d.symbols y → KeptOutside letters news (base d y) (base d y + width_of d y) → front d (from_list letters) y ≡ front d (from_list news) y
front_kept d letters news y row kept =
    ap with_spaces
    (words_agree d (from_list letters) (from_list news) (y - 1)
    (λ v one l. same_word d (from_list letters) (from_list news) v
    (λ b inside. sym (kept (point_of d v b)
    (outside (base d y) (width_of d y) (point_of d v b)
    (λ c within same.
    let v_row : IsRow d.symbols v = (omega arith, let m = row.1 in omega arith) in
    let z = apart d v y b c v_row row inside within same in
    omega arith))))))

module _ (d : Database) (u : Usable d) (line : List ℕ) where
  module _ (letters : List Letter) (y at : ℕ) (reads : Has (front d (from_list letters) y) line 0 at) where
    -- an input is read, or another symbol passed
    pub input_read : (news : List Letter) (end : ℕ) → IsRow d.symbols y → rank_of d y == rank (Some Input) ≡ true → KeptOutside letters news (base d y) (base d y + width_of d y) → Has (space_before at ++ symbol_word d (from_list news) y) line at end → Has (front d (from_list news) (y + 1)) line 0 end
    input_read news end row e kept one =
        let same = front_kept d letters news y row kept in
        let place : at ≡ length (front d (from_list news) y) = omega (arith, reads.count, ap length same) in
        has_same _ (front d (from_list news) (y + 1)) line 0 end
        (ap₂ (λ t n. t ++ (space_before n ++ symbol_word d (from_list news) y)) same place ∙ sym (input_more d (from_list news) u y row e))
        (has_more (front d (from_list letters) y) (space_before at ++ symbol_word d (from_list news) y) line 0 at end reads one)

    pub input_passed : 1 ≤ y → rank_of d y == rank (Some Input) ≡ false → Has (front d (from_list letters) (y + 1)) line 0 at
    input_passed row e = has_same (front d (from_list letters) y) (front d (from_list letters) (y + 1)) line 0 at (ap (λ ys. with_spaces (words d (from_list letters) ys)) (sym (no_more d Input y row e))) reads

    -- what any right line has behind the front
    behind : (x : Letters) (rest : List ℕ) → line ≡ front d x y ++ rest → drop at line ≡ rest
    behind x rest e =
        ap (drop at) e ∙ drop_at (front d x y) rest at (same_length d x (from_list letters) (before d Input y) ∙ (let place : length (front d (from_list letters) y) ≡ at = omega (arith, reads.count) in place))

    -- where an input cannot be read, the line is wrong
    pub input_wrong : IsRow d.symbols y → rank_of d y == rank (Some Input) ≡ true → ((x : Letters) (rest : List ℕ) → ¬ (drop at line ≡ space_before at ++ (symbol_word d x y ++ rest))) → (x : Letters) → ¬ (line ≡ value_line d x)
    input_wrong row e wrong x right =
        let (rest, begins) = line_begins d x (y + 1 - 1) (let m = row.1 in omega arith) in
        let place : length (front d x y) ≡ at = same_length d x (from_list letters) (before d Input y) ∙ (let p : length (front d (from_list letters) y) ≡ at = omega (arith, reads.count) in p) in
        wrong x rest
        (behind x (space_before at ++ (symbol_word d x y ++ rest))
        (right ∙ begins ∙ ap (λ t. t ++ rest) (input_more d x u y row e)
        ∙ append_assoc (front d x y) (space_before (length (front d x y)) ++ symbol_word d x y) rest
        ∙ ap (λ t. front d x y ++ t) (append_assoc (space_before (length (front d x y))) (symbol_word d x y) rest)
        ∙ ap (λ n. front d x y ++ (space_before n ++ (symbol_word d x y ++ rest))) place))

    module _ (end : y ≡ length d.symbols + 1) where
      whole : (x : Letters) → value_line d x ≡ front d x y ++ 10 ∷ []
      whole x = ap (λ ys. with_spaces (words d x ys) ++ 10 ∷ []) (sym (before_end d Input y end))

      -- the line ends behind the last input, or is wrong
      pub line_read : drop at line ≡ 10 ∷ [] → line ≡ value_line d (from_list letters)
      line_read e = reads.bytes ∙ ap (λ t. front d (from_list letters) y ++ t) e ∙ sym (whole (from_list letters))

      pub line_wrong : ¬ (drop at line ≡ 10 ∷ []) → (x : Letters) → ¬ (line ≡ value_line d x)
      line_wrong more x right = more (behind x (10 ∷ []) (right ∙ whole x))
