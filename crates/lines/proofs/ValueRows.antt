-- The symbols of a class, row by row, and the parts of a table in which their letters stand. Assumes nothing.
use Rattle.std.proofs.Common.{◌≡◌, ℕ, zero, suc, ◌+◌, ◌-◌, ◌≤◌, Bool, true, false, cond, ◌==◌, List, [], ◌∷◌, ◌++◌, filter, length, Some, sym, refl, ap, ◌∙◌, ⊎_elim, arith}
use Rattle.std.proofs.lemmas.Bool.{cases_Bool}
use Rattle.std.proofs.lemmas.Bool.Decides.{nat_tests}
use Rattle.std.proofs.lemmas.List.{append-nil, append_assoc, length_push, length-append}
use Rattle.std.proofs.lemmas.List.Elements.{filter-append}
use Rattle.grammar.specs.declared.draft.Class.{Class}
use Rattle.grammar.specs.declared.draft.Class.TheVariants.{Input, Output, Memory, Bus}
use Rattle.least.specs.Each.{grown_after}
use Rattle.database.specs.Rows.{Database}
use Rattle.control.specs.Points.{rank, rank_of, row_numbers, symbols_of}

-- numbers from 1 on
abbrev pub up : ℕ → List ℕ
up zero = []
up (suc n) = up n ++ (n + 1) ∷ []

length_up : (n : ℕ) → length (up n) ≡ n
length_up zero = refl
length_up (suc n) = omega (arith, length_push (up n) (n + 1), length_up n)

numbers_from : {A : Type 0} (n : ℕ) (xs : List A) → grown_after (λ (rows : List ℕ) (x : A). length rows + 1) (up n) xs ≡ up (n + length xs)
numbers_from n [] = ap up (let z : n ≡ n + 0 = omega arith in z)
numbers_from {A} n (x ∷ xs) =
    ap (λ k. grown_after (λ (rows : List ℕ) (y : A). length rows + 1) (up n ++ (k + 1) ∷ []) xs) (length_up n)
    ∙ numbers_from (suc n) xs ∙ ap up (let z : suc n + length xs ≡ n + suc (length xs) = omega arith in z)

pub row_numbers_are : {A : Type 0} (xs : List A) → row_numbers xs ≡ up (length xs)
row_numbers_are xs = numbers_from 0 xs ∙ ap up (let z : 0 + length xs ≡ length xs = omega arith in z)

module _ (d : Database) (c : Class) where
  abbrev is_of : ℕ → Bool
  is_of y = rank_of d y == rank (Some c)

  -- those of the class among the first n symbols
  abbrev pub first_of : ℕ → List ℕ
  first_of n = filter is_of (up n)

  pub all_of : first_of (length d.symbols) ≡ symbols_of d c
  all_of = ap (filter is_of) (sym (row_numbers_are d.symbols))

  pub next_of : (n : ℕ) → first_of (suc n) ≡ first_of n ++ cond (is_of (n + 1)) ((n + 1) ∷ []) []
  next_of n = filter-append is_of (up n) ((n + 1) ∷ [])

  -- those before a symbol, of the class
  abbrev pub before : ℕ → List ℕ
  before y = first_of (y - 1)

  to_next : (n : ℕ) → first_of (suc n + 1 - 1) ≡ first_of n ++ cond (is_of (n + 1)) ((n + 1) ∷ []) []
  to_next n = ap first_of (let z : suc n + 1 - 1 ≡ suc n = omega arith in z) ∙ next_of n

  before_next : (y : ℕ) → 1 ≤ y → before (y + 1) ≡ before y ++ cond (is_of y) (y ∷ []) []
  before_next zero h = absurd (omega arith)
  before_next (suc n) h =
      to_next n
      ∙ ap (λ k. first_of k ++ cond (is_of (n + 1)) ((n + 1) ∷ []) []) (let z : n ≡ suc n - 1 = omega arith in z)
      ∙ ap (λ k. before (suc n) ++ cond (is_of k) (k ∷ []) []) (let z : n + 1 ≡ suc n = omega arith in z)

  module _ (y : ℕ) (row : 1 ≤ y) where
    pub one_more : is_of y ≡ true → before (y + 1) ≡ before y ++ y ∷ []
    one_more e = before_next y row ∙ ap (λ t. before y ++ cond t (y ∷ []) []) e

    pub no_more : is_of y ≡ false → before (y + 1) ≡ before y
    no_more e = before_next y row ∙ ap (λ t. before y ++ cond t (y ∷ []) []) e ∙ append-nil (before y)

    length_one_more : is_of y ≡ true → length (before (y + 1)) ≡ length (before y) + 1
    length_one_more e = ap length (one_more e) ∙ length_push (before y) y

    more : length (before y) ≤ length (before (y + 1))
    more = ⊎_elim (λ e. omega (arith, length_one_more e)) (λ e. omega (arith, ap length (no_more e))) (cases_Bool (is_of y))

  -- there are no fewer before a later one
  grows : (y k : ℕ) → 1 ≤ y → length (before y) ≤ length (before (y + k))
  grows y zero h = omega (arith, ap (λ z. length (before z)) (let z : y + 0 ≡ y = omega arith in z))
  grows y (suc k) h = omega (arith, grows y k h, more (y + k) (omega arith), ap (λ z. length (before z)) (let z : y + suc k ≡ y + k + 1 = omega arith in z))

  -- behind the last symbol all are before
  pub before_end : (y : ℕ) → y ≡ length d.symbols + 1 → before y ≡ symbols_of d c
  before_end y e = ap first_of (let z : y - 1 ≡ length d.symbols = omega arith in z) ∙ all_of

  -- one more is still among all
  pub room_for : (y : ℕ) → 1 ≤ y → y ≤ length d.symbols → is_of y ≡ true → length (before y) + 1 ≤ length (symbols_of d c)
  room_for y row h e =
      omega (
        arith,
        length_one_more y row e,
        grows (y + 1) (length d.symbols - y) (omega arith),
        ap length (before_end (y + 1 + (length d.symbols - y)) (omega arith)),
      )

  -- the first of them come first
  begins_by : (n k : ℕ) → (others : List ℕ) × (first_of (n + k) ≡ first_of n ++ others)
  begins_by n zero = ([], ap first_of (let z : n + 0 ≡ n = omega arith in z) ∙ sym (append-nil (first_of n)))
  begins_by n (suc k) =
      let (others, e) = begins_by n k in
      let more = cond (is_of (n + k + 1)) ((n + k + 1) ∷ []) [] in (
        others ++ more,
        ap first_of (let z : n + suc k ≡ suc (n + k) = omega arith in z) ∙ next_of (n + k) ∙ ap (λ t. t ++ more) e ∙ append_assoc (first_of n) others more,
      )

  pub begins_all : (n m : ℕ) → n ≤ m → (others : List ℕ) × (first_of m ≡ first_of n ++ others)
  begins_all n m h =
      let (others, e) = begins_by n (m - n) in
      (others, ap first_of (let z : m ≡ n + (m - n) = omega arith in z) ∙ e)

-- symbols are of one class each
one_if : (b : Bool) (y : ℕ) → length (cond b (y ∷ []) []) ≡ cond b 1 0
one_if true y = refl
one_if false y = refl

at_most_one : (n : ℕ) → cond (n == 1) 1 0 + cond (n == 2) 1 0 + cond (n == 3) 1 0 + cond (n == 4) 1 0 ≤ 1
at_most_one n = grind (arith, nat_tests)

module _ (d : Database) where
  abbrev counted : Class → ℕ → ℕ
  counted c n = length (first_of d c n)

  counted_next : (c : Class) (n : ℕ) → counted c (suc n) ≡ counted c n + cond (rank_of d (n + 1) == rank (Some c)) 1 0
  counted_next c n =
      ap length (next_of d c n) ∙ length-append (first_of d c n) (cond (rank_of d (n + 1) == rank (Some c)) ((n + 1) ∷ []) [])
      ∙ ap (λ k. counted c n + k) (one_if (rank_of d (n + 1) == rank (Some c)) (n + 1))

  classes_apart : (n : ℕ) → counted Input n + counted Memory n + counted Bus n + counted Output n ≤ n
  classes_apart zero = omega arith
  classes_apart (suc n) = omega (arith, classes_apart n, counted_next Input n, counted_next Memory n, counted_next Bus n, counted_next Output n, at_most_one (rank_of d (n + 1)))

  pub few_symbols : length (symbols_of d Input) + length (symbols_of d Memory) + length (symbols_of d Bus) + length (symbols_of d Output) ≤ length d.symbols
  few_symbols = omega (arith, classes_apart (length d.symbols), ap length (all_of d Input), ap length (all_of d Memory), ap length (all_of d Bus), ap length (all_of d Output))
