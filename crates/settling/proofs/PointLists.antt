-- The numbers of points are their places in the lists of points. Assumes nothing.
use Rattle.std.proofs.Common.{◌≡◌, ℕ, zero, suc, ◌+◌, ◌-◌, ◌<◌, ◌≤◌, Bool, true, false, cond, ◌&&◌, ◌||◌, nat_lt, nat_le, ◌==◌, List, [], ◌∷◌, ◌++◌, length, get_or, map, filter, flat_map, Option, Some, None, IsSome, sym, refl, ap, ap₂, ◌∙◌, subst, ⊎_elim, arith}
use Rattle.std.proofs.lemmas.Bool.{cases_eq, cases_lt, cond-true, cond-false, eq-eqb, lt-ltb, true≢false}
use Rattle.std.proofs.lemmas.Bool.Decides.{nat_tests}
use Rattle.std.proofs.lemmas.List.{append-nil, append_assoc, length_push, length-append, length-map, get_or_push, get_or_append_left, get_or-append-add, get_or-map, same_lists}
use Rattle.std.proofs.lemmas.List.Elements.{filter-append}
use Rattle.std.proofs.lemmas.List.Concat.{flat_map-append}
use Rattle.grammar.specs.declared.draft.Class.{Class}
use Rattle.grammar.specs.declared.draft.Class.TheVariants.{Input, Output, Memory, Bus}
use Rattle.least.specs.Each.{IsRow}
use Rattle.least.proofs.Finds.{length_numbered, numbered_at}
use Rattle.database.specs.Codes.{class_of}
use Rattle.database.specs.Rows.{Database, symbol, no_symbol, no_step}
use Rattle.database.specs.Soundness.{Sound}
use Rattle.control.specs.Points.{Point, bit_of, step_of, rank, rank_of, width_of, row_numbers, below, points, held_points, step_points, sum_up_to, base, all_bits, held_bits, point_of}
use Rattle.control.specs.Laws.{PointLaws, PointsInOrder}

-- sums
sum_same : (f g : ℕ → ℕ) (n : ℕ) → ((i : ℕ) → i < n → f i ≡ g i) → sum_up_to f n ≡ sum_up_to g n
unfolding sum_up_to
sum_same f g zero h = refl
sum_same f g (suc n) h = omega (arith, sum_same f g n (λ i l. h i (omega arith)), h n (omega arith))

sum_add : (f g h : ℕ → ℕ) (n : ℕ) → ((i : ℕ) → i < n → f i ≡ g i + h i) → sum_up_to f n ≡ sum_up_to g n + sum_up_to h n
unfolding sum_up_to
sum_add f g h zero e = omega arith
sum_add f g h (suc n) e = omega (arith, sum_add f g h n (λ i l. e i (omega arith)), e n (omega arith))

sum_none : (f : ℕ → ℕ) (n : ℕ) → ((i : ℕ) → i < n → f i ≡ 0) → sum_up_to f n ≡ 0
unfolding sum_up_to
sum_none f zero h = refl
sum_none f (suc n) h = omega (arith, sum_none f n (λ i l. h i (omega arith)), h n (omega arith))

-- from the place k on nothing is added
sum_cut : (f g : ℕ → ℕ) (k n : ℕ) → k ≤ n → ((i : ℕ) → i < k → f i ≡ g i) → ((i : ℕ) → k ≤ i → f i ≡ 0) → sum_up_to f n ≡ sum_up_to g k
unfolding sum_up_to
sum_cut f g k zero l same none = let z : k ≡ zero = omega arith in ap (sum_up_to g) (sym z)
sum_cut f g k (suc n) l same none =
    ⊎_elim
    (λ a. omega (arith, sum_cut f g k n (omega arith) same none, none n (omega arith)))
    (λ a. let z : k ≡ suc n = omega arith in sum_same f g (suc n) (λ i b. same i (omega arith)) ∙ ap (sum_up_to g) (sym z))
    (cases_lt k (suc n))

sum_next : (f : ℕ → ℕ) (k n : ℕ) → k < n → sum_up_to f k + f k ≤ sum_up_to f n
unfolding sum_up_to
sum_next f k zero l = absurd (omega arith)
sum_next f k (suc n) l =
    ⊎_elim
    (λ is. subst (λ m. sum_up_to f m + f m ≤ sum_up_to f (suc n)) (sym is) (omega arith))
    (λ ne. omega (arith, sum_next f k n (omega (arith, ne))))
    (cases_eq k n)

-- numbers from 1 on
abbrev up : ℕ → List ℕ
up zero = []
up (suc n) = up n ++ (n + 1) ∷ []

length_up : (n : ℕ) → length (up n) ≡ n
length_up zero = refl
length_up (suc n) = omega (arith, length_push (up n) (n + 1), length_up n)

up_at : (n k e : ℕ) → k < n → get_or (up n) k e ≡ k + 1
up_at zero k e l = absurd (omega arith)
up_at (suc n) k e l =
    ⊎_elim
    (λ is. get_or_push (up n) (n + 1) e k (length_up n ∙ sym is) ∙ ap (λ m. m + 1) (sym is))
    (λ ne. get_or_append_left (up n) ((n + 1) ∷ []) e k (omega (arith, length_up n, ne)) ∙ up_at n k e (omega (arith, ne)))
    (cases_eq k n)

row_numbers_are : {A : Type 0} (none : A) (xs : List A) → row_numbers xs ≡ up (length xs)
row_numbers_are none xs =
    same_lists (row_numbers xs) (up (length xs))
    (length_numbered (λ n x. n) xs ∙ sym (length_up (length xs)))
    (λ k e l. let h : k < length xs = omega (arith, length_numbered (λ n x. n) xs) in numbered_at (λ n x. n) xs k none e h ∙ sym (up_at (length xs) k e h))

length_below : (n : ℕ) → length (below n) ≡ n
length_below zero = refl
length_below (suc n) = omega (arith, length_push (below n) n, length_below n)

below_at : (n k e : ℕ) → k < n → get_or (below n) k e ≡ k
below_at zero k e l = absurd (omega arith)
below_at (suc n) k e l =
    ⊎_elim
    (λ is. get_or_push (below n) n e k (length_below n ∙ sym is) ∙ sym is)
    (λ ne. get_or_append_left (below n) (n ∷ []) e k (omega (arith, length_below n, ne)) ∙ below_at n k e (omega (arith, ne)))
    (cases_eq k n)

-- symbols of these ranks and widths
module _ (ranks widths : ℕ → ℕ) where
  abbrev own : ℕ → List Point
  own y = map (bit_of y) (below (widths y))

  length_own : (y : ℕ) → length (own y) ≡ widths y
  length_own y = length-map (below (widths y)) (bit_of y) ∙ length_below (widths y)

  own_at : (y b : ℕ) (e : Point) → b < widths y → get_or (own y) b e ≡ bit_of y b
  own_at y b e l = get_or-map (bit_of y) (below (widths y)) b b e (omega (arith, length_below (widths y))) ∙ ap (bit_of y) (below_at (widths y) b b l)

  -- the bits of a rank, among the first n
  abbrev tests : ℕ → ℕ → Bool
  tests r y = ranks y == r

  abbrev of_rank : ℕ → ℕ → List Point
  of_rank r n = flat_map own (filter (tests r) (up n))

  abbrev many : ℕ → ℕ → ℕ
  many r n = sum_up_to (λ i. cond (tests r (i + 1)) (widths (i + 1)) 0) n

  one_more : (t : Bool) (y : ℕ) → flat_map own (cond t (y ∷ []) []) ≡ cond t (own y) []
  one_more true y = append-nil (own y)
  one_more false y = refl

  length_more : (t : Bool) (y : ℕ) → length (cond t (own y) []) ≡ cond t (widths y) 0
  length_more true y = length_own y
  length_more false y = refl

  of_rank_next : (r n : ℕ) → of_rank r (suc n) ≡ of_rank r n ++ cond (tests r (n + 1)) (own (n + 1)) []
  of_rank_next r n =
      ap (flat_map own) (filter-append (tests r) (up n) ((n + 1) ∷ [])) ∙ flat_map-append own (filter (tests r) (up n)) (cond (tests r (n + 1)) ((n + 1) ∷ []) [])
      ∙ ap (λ l. of_rank r n ++ l) (one_more (tests r (n + 1)) (n + 1))

  length_of_rank : (r n : ℕ) → length (of_rank r n) ≡ many r n
  unfolding sum_up_to
  length_of_rank r zero = refl
  length_of_rank r (suc n) =
      ap length (of_rank_next r n) ∙ length-append (of_rank r n) (cond (tests r (n + 1)) (own (n + 1)) [])
      ∙ ap₂ (λ a b. a + b) (length_of_rank r n) (length_more (tests r (n + 1)) (n + 1))

  of_rank_at : (r n k b : ℕ) (e : Point) → k < n → ranks (k + 1) ≡ r → b < widths (k + 1) → get_or (of_rank r n) (many r k + b) e ≡ bit_of (k + 1) b
  of_rank_at r zero k b e l is wide = absurd (omega arith)
  of_rank_at r (suc n) k b e l is wide =
      let t : tests r (k + 1) ≡ true = eq-eqb _ _ is in
      ap (λ l. get_or l (many r k + b) e) (of_rank_next r n)
      ∙ ⊎_elim
      (λ same.
      let at : many r k + b ≡ length (of_rank r n) + b = ap (λ m. m + b) (ap (many r) same ∙ sym (length_of_rank r n)) in
      let last : cond (tests r (n + 1)) (own (n + 1)) [] ≡ own (k + 1) = ap (λ m. cond (tests r (m + 1)) (own (m + 1)) []) (sym same) ∙ cond-true (tests r (k + 1)) (own (k + 1)) [] t in
      ap₂ (λ l m. get_or (of_rank r n ++ l) m e) last at ∙ get_or-append-add (of_rank r n) (own (k + 1)) b e ∙ own_at (k + 1) b e wide)
      (λ ne.
      let z : k < n = omega (arith, ne) in
      let w : cond (tests r (k + 1)) (widths (k + 1)) 0 ≡ widths (k + 1) = cond-true (tests r (k + 1)) (widths (k + 1)) 0 t in
      get_or_append_left (of_rank r n) (cond (tests r (n + 1)) (own (n + 1)) []) e (many r k + b) (omega (arith, length_of_rank r n, sum_next (λ i. cond (tests r (i + 1)) (widths (i + 1)) 0) k n z))
      ∙ of_rank_at r n k b e z is wide)
      (cases_eq k n)

  -- the bits of ranks below one, among the first n
  abbrev lower : ℕ → ℕ → ℕ
  lower r n = sum_up_to (λ i. cond (nat_lt (ranks (i + 1)) r) (widths (i + 1)) 0) n

  part : (s t : Bool) (w : ℕ) → (s ≡ true → t ≡ false) → cond (s || t) w 0 ≡ cond s w 0 + cond t w 0
  part true true w h = absurd (true≢false (h refl))
  part true false w h = omega arith
  part false t w h = omega arith

  lower_next : (r n : ℕ) → lower (suc r) n ≡ lower r n + many r n
  lower_next r n =
      sum_add _ _ _ n (λ i l.
      let z : nat_lt (ranks (i + 1)) (suc r) ≡ (nat_lt (ranks (i + 1)) r || ranks (i + 1) == r) = grind (arith, nat_tests) in
      ap (λ t. cond t (widths (i + 1)) 0) z ∙ part (nat_lt (ranks (i + 1)) r) (ranks (i + 1) == r) (widths (i + 1)) (λ e. grind (arith, nat_tests)))

  module _ (n : ℕ) (ranked : (i : ℕ) → i < n → 1 ≤ ranks (i + 1)) where
    -- the bits of ranks 1, .. m
    abbrev front : ℕ → List Point
    front zero = []
    front (suc m) = front m ++ of_rank (suc m) n

    lower_one : lower 1 n ≡ 0
    lower_one = sum_none _ n (λ i l. let h = ranked i l in let z : nat_lt (ranks (i + 1)) 1 ≡ false = grind (arith, nat_tests) in cond-false (nat_lt (ranks (i + 1)) 1) (widths (i + 1)) 0 z)

    length_front : (m : ℕ) → length (front m) ≡ lower (suc m) n
    length_front zero = sym lower_one
    length_front (suc m) = length-append (front m) (of_rank (suc m) n) ∙ ap₂ (λ a b. a + b) (length_front m) (length_of_rank (suc m) n) ∙ sym (lower_next (suc m) n)

    front_at : (m r k b : ℕ) (behind : List Point) (e : Point) → r < m → k < n → ranks (k + 1) ≡ suc r → b < widths (k + 1)
        → get_or (front m ++ behind) (lower (suc r) n + many (suc r) k + b) e ≡ bit_of (k + 1) b
    front_at zero r k b behind e low l is wide = absurd (omega arith)
    front_at (suc m) r k b behind e low l is wide =
        ap (λ l. get_or l (lower (suc r) n + many (suc r) k + b) e) (append_assoc (front m) (of_rank (suc m) n) behind)
        ∙ ⊎_elim
        (λ same.
        let at : lower (suc r) n + many (suc r) k + b ≡ length (front m) + (many (suc r) k + b) = omega (arith, length_front m, ap (λ q. lower (suc q) n) same) in
        let w : cond (tests (suc r) (k + 1)) (widths (k + 1)) 0 ≡ widths (k + 1) = cond-true (tests (suc r) (k + 1)) (widths (k + 1)) 0 (eq-eqb _ _ is) in
        ap₂ (λ l j. get_or (front m ++ (of_rank (suc l) n ++ behind)) j e) (sym same) at
        ∙ get_or-append-add (front m) (of_rank (suc r) n ++ behind) (many (suc r) k + b) e
        ∙ get_or_append_left (of_rank (suc r) n) behind e (many (suc r) k + b) (omega (arith, length_of_rank (suc r) n, sum_next (λ i. cond (tests (suc r) (i + 1)) (widths (i + 1)) 0) k n l))
        ∙ of_rank_at (suc r) n k b e l is wide)
        (λ ne. front_at m r k b (of_rank (suc m) n ++ behind) e (omega (arith, ne)) l is wide)
        (cases_eq r m)

    -- what stands before a symbol
    abbrev start : ℕ → ℕ
    start y = sum_up_to (λ i. cond (nat_lt (ranks (i + 1)) (ranks y) || (ranks (i + 1) == ranks y && nat_lt (i + 1) y)) (widths (i + 1)) 0) n

    start_is : (k : ℕ) → k < n → start (k + 1) ≡ lower (ranks (k + 1)) n + many (ranks (k + 1)) k
    start_is k l =
        sum_add _ (λ i. cond (nat_lt (ranks (i + 1)) (ranks (k + 1))) (widths (i + 1)) 0) (λ i. cond (ranks (i + 1) == ranks (k + 1) && nat_lt (i + 1) (k + 1)) (widths (i + 1)) 0) n
        (λ i l. part (nat_lt (ranks (i + 1)) (ranks (k + 1))) (ranks (i + 1) == ranks (k + 1) && nat_lt (i + 1) (k + 1)) (widths (i + 1)) (λ e. grind (arith, nat_tests)))
        ∙ ap (λ m. lower (ranks (k + 1)) n + m)
        (sum_cut _ (λ i. cond (tests (ranks (k + 1)) (i + 1)) (widths (i + 1)) 0) k n (omega arith)
        (λ i l. let z : (ranks (i + 1) == ranks (k + 1) && nat_lt (i + 1) (k + 1)) ≡ (ranks (i + 1) == ranks (k + 1)) = grind (arith, nat_tests) in ap (λ t. cond t (widths (i + 1)) 0) z)
        (λ i l. let z : (ranks (i + 1) == ranks (k + 1) && nat_lt (i + 1) (k + 1)) ≡ false = grind (arith, nat_tests) in cond-false _ (widths (i + 1)) 0 z))

    -- a symbol's bits stand in their places
    start_at : (m k b : ℕ) (behind : List Point) (e : Point) → ranks (k + 1) ≤ m → k < n → b < widths (k + 1) → get_or (front m ++ behind) (start (k + 1) + b) e ≡ bit_of (k + 1) b
    start_at m k b behind e low l wide =
        let h = ranked k l in
        let is : ranks (k + 1) ≡ suc (ranks (k + 1) - 1) = omega arith in
        ap (λ j. get_or (front m ++ behind) (j + b) e) (start_is k l ∙ ap (λ r. lower r n + many r k) is)
        ∙ front_at m (ranks (k + 1) - 1) k b behind e (omega arith) l is wide

-- steps
length_steps : (n : ℕ) → length (map step_of (up n)) ≡ n
length_steps n = length-map (up n) step_of ∙ length_up n

step_at : (n s : ℕ) (e : Point) → 1 ≤ s → s ≤ n → get_or (map step_of (up n)) (s - 1) e ≡ step_of s
step_at n s e one low = get_or-map step_of (up n) (s - 1) 0 e (omega (arith, length_up n)) ∙ ap step_of (up_at n (s - 1) 0 (omega arith) ∙ (let z : s - 1 + 1 ≡ s = omega arith in z))

rank_some : (o : Option Class) → IsSome o → 1 ≤ rank o
rank_some None h = cc
rank_some (Some Input) h = omega arith
rank_some (Some Output) h = omega arith
rank_some (Some Memory) h = omega arith
rank_some (Some Bus) h = omega arith

rank_most : (o : Option Class) → rank o ≤ 4
rank_most None = omega arith
rank_most (Some Input) = omega arith
rank_most (Some Output) = omega arith
rank_most (Some Memory) = omega arith
rank_most (Some Bus) = omega arith

lt_or_le : (a b : ℕ) → nat_lt a (suc b) ≡ nat_le a b
lt_or_le a b = grind (arith, nat_tests)

module _ (bytes : ℕ) (d : Database) (s : Sound bytes d) where
  abbrev symbols : ℕ
  symbols = length d.symbols

  ranked : (i : ℕ) → i < symbols → 1 ≤ rank_of d (i + 1)
  ranked i l = rank_some (class_of (symbol d (i + 1)).class) (s.symbols (i + 1) (omega arith, omega arith)).class

  abbrev bits_to : ℕ → List Point
  bits_to m = front (rank_of d) (width_of d) symbols ranked m

  abbrev bits_of_rank : ℕ → List Point
  bits_of_rank r = of_rank (rank_of d) (width_of d) r symbols

  abbrev rows_of_rank : ℕ → List ℕ
  rows_of_rank r = filter (λ y. rank_of d y == r) (up symbols)

  abbrev bits : List ℕ → List Point
  bits ys = flat_map (own (rank_of d) (width_of d)) ys

  two : (a b : List ℕ) → bits (a ++ b) ≡ bits a ++ bits b
  two a b = flat_map-append (own (rank_of d) (width_of d)) a b

  step_list : step_points d ≡ map step_of (up (length d.steps))
  step_list = ap (map step_of) (row_numbers_are no_step d.steps)

  point_list : points d ≡ bits_to 4 ++ map step_of (up (length d.steps))
  point_list =
      ap (λ ys. bits (filter (λ y. rank_of d y == 1) ys ++ filter (λ y. rank_of d y == 2) ys ++ filter (λ y. rank_of d y == 3) ys ++ filter (λ y. rank_of d y == 4) ys) ++ step_points d) (row_numbers_are no_symbol d.symbols)
      ∙ ap₂ (λ l t. l ++ t)
      (two (rows_of_rank 1 ++ rows_of_rank 2 ++ rows_of_rank 3) (rows_of_rank 4)
      ∙ ap (λ l. l ++ bits_of_rank 4) (two (rows_of_rank 1 ++ rows_of_rank 2) (rows_of_rank 3) ∙ ap (λ l. l ++ bits_of_rank 3) (two (rows_of_rank 1) (rows_of_rank 2))))
      step_list

  held_list : held_points d ≡ bits_to 2 ++ map step_of (up (length d.steps))
  held_list =
      ap (λ ys. bits (filter (λ y. rank_of d y == 1) ys ++ filter (λ y. rank_of d y == 2) ys) ++ step_points d) (row_numbers_are no_symbol d.symbols)
      ∙ ap₂ (λ l t. l ++ t) (two (rows_of_rank 1) (rows_of_rank 2)) step_list

  long : length (bits_to 4) ≡ all_bits d
  unfolding all_bits
  long =
      length_front (rank_of d) (width_of d) symbols ranked 4
      ∙ sum_same _ (λ i. width_of d (i + 1)) symbols (λ i l.
      let m = rank_most (class_of (symbol d (i + 1)).class) in
      let z : nat_lt (rank_of d (i + 1)) 5 ≡ true = lt-ltb _ 5 (omega arith) in
      cond-true (nat_lt (rank_of d (i + 1)) 5) (width_of d (i + 1)) 0 z)

  held_long : length (bits_to 2) ≡ held_bits d
  unfolding held_bits
  held_long =
      length_front (rank_of d) (width_of d) symbols ranked 2
      ∙ sum_same _ (λ i. cond (nat_le (rank_of d (i + 1)) 2) (width_of d (i + 1)) 0) symbols (λ i l.
      ap (λ t. cond t (width_of d (i + 1)) 0) (lt_or_le (rank_of d (i + 1)) 2))

  -- a symbol's bits stand in their places, before whatever is behind them
  bits_at : (m y b : ℕ) (behind : List Point) (e : Point) → IsRow d.symbols y → rank_of d y ≤ m → b < width_of d y → get_or (bits_to m ++ behind) (point_of d y b) e ≡ bit_of y b
  unfolding base
  bits_at m y b behind e row low wide =
      let z : y - 1 + 1 ≡ y = omega (arith, row.0) in
      subst (λ v. rank_of d v ≤ m → b < width_of d v → get_or (bits_to m ++ behind) (point_of d v b) e ≡ bit_of v b) z
      (λ h g. start_at (rank_of d) (width_of d) symbols ranked m (y - 1) b behind e h (omega (arith, row.0, row.1)) g)
      low wide

  steps_at : (m s : ℕ) → IsRow d.steps s → get_or (bits_to m ++ map step_of (up (length d.steps))) (length (bits_to m) + (s - 1)) (step_of 0) ≡ step_of s
  steps_at m s row = get_or-append-add (bits_to m) (map step_of (up (length d.steps))) (s - 1) (step_of 0) ∙ step_at (length d.steps) s (step_of 0) row.0 row.1

  counted : (m : ℕ) → length (bits_to m ++ map step_of (up (length d.steps))) ≡ length (bits_to m) + length d.steps
  counted m = length-append (bits_to m) (map step_of (up (length d.steps))) ∙ ap (λ n. length (bits_to m) + n) (length_steps (length d.steps))

  in_order : PointLaws d
  in_order = record {
    count = ap length point_list ∙ counted 4 ∙ ap (λ n. n + length d.steps) long;
    bits = λ y b row wide. ap (λ l. get_or l (point_of d y b) (step_of 0)) point_list ∙ bits_at 4 y b (map step_of (up (length d.steps))) (step_of 0) row (rank_most (class_of (symbol d y).class)) wide;
    steps = λ s row. ap₂ (λ l n. get_or l (n + (s - 1)) (step_of 0)) point_list (sym long) ∙ steps_at 4 s row;
    held_count = ap length held_list ∙ counted 2 ∙ ap (λ n. n + length d.steps) held_long;
    held_bits = λ y b row low wide. ap (λ l. get_or l (point_of d y b) (step_of 0)) held_list ∙ bits_at 2 y b (map step_of (up (length d.steps))) (step_of 0) row low wide;
    held_steps = λ s row. ap₂ (λ l n. get_or l (n + (s - 1)) (step_of 0)) held_list (sym held_long) ∙ steps_at 2 s row;
  }

pub points_in_order : PointsInOrder
points_in_order = in_order
