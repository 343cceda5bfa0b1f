-- Sums over the rows of a table, and what holds of each row. Assumes nothing.
use Rattle.std.proofs.Common.{◌≡◌, ℕ, zero, suc, ◌+◌, ◌-◌, ◌<◌, ◌==◌, cond, ◌≤◌, List, [], ◌∷◌, ◌++◌, length, get_or, map, sum_by, All, sym, refl, ap, ap₂, ◌∙◌, subst, ⊎_elim, eq-eqb, ne_eqb, arith}
use Rattle.std.proofs.lemmas.Bool.{cases_lt, cond-true, cond-false}
use Rattle.std.proofs.lemmas.List.Elements.{All-nil, All-cons, All-head, All-tail}
use Rattle.std.proofs.lemmas.List.{get_or-map}
use Rattle.std.proofs.lemmas.List.Sums.{sum_by-cons}
use Rattle.least.specs.Each.{IsRow, row_at}
use Rattle.control.specs.Points.{sum_up_to}

-- rows count from 1
pub row_is : {A : Type 0} (none : A) (xs : List A) (i : ℕ) → row_at none xs (i + 1) ≡ get_or xs i none
row_is none xs i = ap (λ m. get_or (none ∷ xs) m none) (let z : i + 1 ≡ suc i = omega arith in z)

-- what holds of each element holds of each row
pub each_row : {A : Type 0} (P : A → Type 0) (none : A) (xs : List A) → All P xs → (n : ℕ) → IsRow xs n → P (row_at none xs n)
each_row P none xs a zero h = absurd (let z = h.0 in omega arith)
each_row P none xs a (suc n) h = a n none (let z = h.1 in omega arith)

-- sums of the same numbers
pub sum_same : (f g : ℕ → ℕ) → ((i : ℕ) → f i ≡ g i) → (n : ℕ) → sum_up_to f n ≡ sum_up_to g n
unfolding sum_up_to
sum_same f g same zero = refl
sum_same f g same (suc n) = ap₂ (λ a b. a + b) (sum_same f g same n) (same n)

-- the first number by itself
sum_first : (f : ℕ → ℕ) (n : ℕ) → sum_up_to f (suc n) ≡ f 0 + sum_up_to (λ i. f (suc i)) n
unfolding sum_up_to
sum_first f zero = omega arith
sum_first f (suc n) = let z = sum_first f n in omega arith

-- a sum goes over rows as over the elements
sum_elements : {A : Type 0} (none : A) (g : A → ℕ) (xs : List A) → sum_up_to (λ i. g (get_or xs i none)) (length xs) ≡ sum_by g xs
unfolding sum_up_to
sum_elements none g [] = refl
sum_elements none g (x ∷ xs) =
    sum_first (λ i. g (get_or (x ∷ xs) i none)) (length xs) ∙ ap (λ m. g x + m) (sum_elements none g xs) ∙ sym (sum_by-cons g x xs)

pub sum_rows : {A : Type 0} (none : A) (g : A → ℕ) (xs : List A) → sum_up_to (λ i. g (row_at none xs (i + 1))) (length xs) ≡ sum_by g xs
sum_rows none g xs = sum_same (λ i. g (row_at none xs (i + 1))) (λ i. g (get_or xs i none)) (λ i. ap g (row_is none xs i)) (length xs) ∙ sum_elements none g xs

-- what stands before a number, and the number, are not more than all
pub sum_part : (f : ℕ → ℕ) (n k : ℕ) → k < n → sum_up_to f k + f k ≤ sum_up_to f n
unfolding sum_up_to
sum_part f zero k h = absurd (omega arith)
sum_part f (suc n) k h = ⊎_elim (λ l. let z = sum_part f n k l in omega arith) (λ l. let e : k ≡ n = omega arith in subst (λ m. sum_up_to f m + f m ≤ sum_up_to f n + f n) (sym e) (omega arith)) (cases_lt k n)

-- what stands before a row, and the row, are not more than all rows
pub row_part : {A : Type 0} (none : A) (g : A → ℕ) (xs : List A) (n : ℕ) → IsRow xs n → sum_up_to (λ i. g (row_at none xs (i + 1))) (n - 1) + g (row_at none xs n) ≤ sum_by g xs
row_part none g xs n h =
    let one : 1 ≤ n = h.0 in
    let most : n ≤ length xs = h.1 in
    let f : ℕ → ℕ = λ i. g (row_at none xs (i + 1)) in
    let same : n - 1 + 1 ≡ n = omega arith in
    let part : sum_up_to f (n - 1) + f (n - 1) ≤ sum_up_to f (length xs) = sum_part f (length xs) (n - 1) (omega arith) in
    let all : sum_up_to f (length xs) ≡ sum_by g xs = sum_rows none g xs in
    subst (λ m. sum_up_to f (n - 1) + g (row_at none xs m) ≤ sum_by g xs) same (subst (λ m. sum_up_to f (n - 1) + f (n - 1) ≤ m) all part)

-- what stands in a row of a mapped list
pub row_mapped : {A B : Type 0} (f : A → B) (xs : List A) (n : ℕ) (none : A) (nothing : B) → IsRow xs n → row_at nothing (map f xs) n ≡ f (row_at none xs n)
row_mapped f xs zero none nothing h = absurd (let z = h.0 in omega arith)
row_mapped f xs (suc n) none nothing h = get_or-map f xs n none nothing (let z = h.1 in omega arith)

-- sums of the same numbers, of nothing, and of 1 for each element
pub sum_agrees : {A : Type 0} (g h : A → ℕ) (xs : List A) → All (λ x. g x ≡ h x) xs → sum_by g xs ≡ sum_by h xs
sum_agrees g h [] same = refl
sum_agrees g h (x ∷ xs) same =
    sum_by-cons g x xs ∙ ap₂ (λ a b. a + b) (All-head (λ y. g y ≡ h y) x xs same) (sum_agrees g h xs (All-tail (λ y. g y ≡ h y) x xs same)) ∙ sym (sum_by-cons h x xs)

pub sum_nothing : {A : Type 0} (g : A → ℕ) (xs : List A) → All (λ x. g x ≡ 0) xs → sum_by g xs ≡ 0
sum_nothing g [] none = refl
sum_nothing g (x ∷ xs) none =
    let first : g x ≡ 0 = All-head (λ y. g y ≡ 0) x xs none in
    let others = sum_nothing g xs (All-tail (λ y. g y ≡ 0) x xs none) in
    sum_by-cons g x xs ∙ omega (arith, first, others)

pub sum_ones : {A : Type 0} (g : A → ℕ) (xs : List A) → All (λ x. g x ≡ 1) xs → sum_by g xs ≡ length xs
sum_ones g [] same = refl
sum_ones g (x ∷ xs) same =
    let first : g x ≡ 1 = All-head (λ y. g y ≡ 1) x xs same in
    let others = sum_ones g xs (All-tail (λ y. g y ≡ 1) x xs same) in
    sum_by-cons g x xs ∙ omega (arith, first, others)

-- what holds of each element of a list holds of each of its parts
pub all_parts : {A : Type 0} (P : A → Type 0) (xs ys : List A) → All P (xs ++ ys) → All P xs × All P ys
all_parts P [] ys a = (All-nil P, a)
all_parts P (x ∷ xs) ys a = let r = all_parts P xs ys (All-tail P x (xs ++ ys) a) in (All-cons P x xs (All-head P x (xs ++ ys) a) r.0, r.1)

-- a number is counted where it is the one that is looked for
pub counted_here : (a b n : ℕ) → a ≡ b → cond (a == b) n 0 ≡ n
counted_here a b n e = cond-true (a == b) n 0 (eq-eqb a b e)

pub counted_elsewhere : (a b n : ℕ) → ¬ (a ≡ b) → cond (a == b) n 0 ≡ 0
counted_elsewhere a b n e = cond-false (a == b) n 0 (ne_eqb a b e)
