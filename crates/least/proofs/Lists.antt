-- Lists judged from the front, and grown: one element more, and all of them. Assumes nothing.
use Rattle.std.proofs.Common.{◌≡◌, ℕ, zero, suc, ◌+◌, ◌-◌, ◌<◌, ◌≤◌, List, [], ◌∷◌, ◌++◌, length, get_or, take, sym, refl, ap, ◌∙◌, add-one, arith}
use Rattle.std.proofs.lemmas.List.{take_more, append-nil, append_assoc, take_all, get_or_push, get_or_past, length_push}
use Rattle.least.specs.Each.{each_after, each, grown_after, grown, row_at, last_of}

pub each_push : {A B : Type 0} (f : List A → A → List B) (done xs : List A) (x : A) → each_after f done (xs ++ x ∷ []) ≡ each_after f done xs ++ f (done ++ xs) x
each_push f done [] x = append-nil (f done x) ∙ ap (λ d. f d x) (sym (append-nil done))
each_push f done (y ∷ xs) x =
    ap (λ r. f done y ++ r) (each_push f (done ++ y ∷ []) xs x ∙ ap (λ d. each_after f (done ++ y ∷ []) xs ++ f d x) (append_assoc done (y ∷ []) xs))
    ∙ sym (append_assoc (f done y) (each_after f (done ++ y ∷ []) xs) (f (done ++ y ∷ xs) x))

pub each_more : {A B : Type 0} (f : List A → A → List B) (xs : List A) (i : ℕ) (d : A) → i < length xs → each f (take (i + 1) xs) ≡ each f (take i xs) ++ f (take i xs) (get_or xs i d)
each_more f xs i d h = ap (each f) (take_more xs i d h) ∙ each_push f [] (take i xs) (get_or xs i d)

pub each_all : {A B : Type 0} (f : List A → A → List B) (xs : List A) (i : ℕ) → length xs ≤ i → each f (take i xs) ≡ each f xs
each_all f xs i h = ap (each f) (take_all i xs h)

pub grown_push : {A B : Type 0} (f : List B → A → B) (done : List B) (xs : List A) (x : A) → grown_after f done (xs ++ x ∷ []) ≡ grown_after f done xs ++ f (grown_after f done xs) x ∷ []
grown_push f done [] x = refl
grown_push f done (y ∷ xs) x = grown_push f (done ++ f done y ∷ []) xs x

pub grown_more : {A B : Type 0} (f : List B → A → B) (xs : List A) (i : ℕ) (d : A) → i < length xs → grown f (take (i + 1) xs) ≡ grown f (take i xs) ++ f (grown f (take i xs)) (get_or xs i d) ∷ []
grown_more f xs i d h = ap (grown f) (take_more xs i d h) ∙ grown_push f [] (take i xs) (get_or xs i d)

-- what is grown from a list and then another
pub grown_append : {A B : Type 0} (f : List B → A → B) (done : List B) (xs ys : List A) → grown_after f done (xs ++ ys) ≡ grown_after f (grown_after f done xs) ys
grown_append f done [] ys = refl
grown_append f done (x ∷ xs) ys = grown_append f (done ++ f done x ∷ []) xs ys

pub grown_end : {A B : Type 0} (f : List B → A → B) (xs : List A) (i : ℕ) → length xs ≤ i → (ys : List B) → ys ≡ grown f (take i xs) → ys ≡ grown f xs
grown_end f xs i h ys e = e ∙ ap (grown f) (take_all i xs h)

-- the last of a list, one element on
pub last_push : {A : Type 0} (none : A) (xs : List A) (x : A) → last_of none (xs ++ x ∷ []) ≡ x
last_push none xs x = ap (λ n. get_or (none ∷ (xs ++ x ∷ [])) n none) (length_push xs x ∙ add-one (length xs)) ∙ get_or_push xs x none (length xs) refl

-- rows count from 1
pub row_in : {A : Type 0} (none : A) (xs : List A) (n : ℕ) → 0 < n → row_at none xs n ≡ get_or xs (n - 1) none
row_in none xs zero h = absurd (omega arith)
row_in none xs (suc n) h = let e : n ≡ suc n - 1 = omega arith in ap (λ k. get_or xs k none) e

pub row_zero : {A : Type 0} (none : A) (xs : List A) (n : ℕ) → n ≤ 0 → row_at none xs n ≡ none
row_zero none xs zero h = refl
row_zero none xs (suc n) h = absurd (omega arith)

pub row_past : {A : Type 0} (none : A) (xs : List A) (n : ℕ) → length xs < n → row_at none xs n ≡ none
row_past none xs zero h = refl
row_past none xs (suc n) h = get_or_past xs n none (omega arith)
