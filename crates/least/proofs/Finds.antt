-- What is found at each element of a list, and what each answer is made from. Assumes nothing.
use Rattle.std.proofs.Common.{◌≡◌, ℕ, ◌+◌, ◌<◌, ◌≤◌, zero, suc, List, [], ◌∷◌, ◌++◌, length, take, get_or, inl, inr, sym, refl, ap, ◌∙◌, subst, add-one, arith}
use Rattle.std.specs.List.{Contains}
use Rattle.std.proofs.lemmas.List.{append-nil, append_assoc, length_push, length-take-le, get_or_at, take_at, take_all, take_more_same}
use Rattle.std.proofs.lemmas.List.Elements.{Contains-append_left, Contains-append_right, Contains-append_cases}
use Rattle.least.specs.Each.{each_after, grown_after, grown, numbered}
use Rattle.least.specs.Laws.{EachFinds, IsGrown, GrownIs, NumberedIs, ListLaws}

-- y is found at one of the elements, seen with those before it, of which some are passed already
abbrev FoundAfter : {A B : Type 0} → (List A → A → List B) → List A → List A → B → Type 0
FoundAfter {A} find done xs y = (k : ℕ) × (k < length xs) × ((none : A) → Contains (find (done ++ take k xs) (get_or xs k none)) y)

found_here : {A B : Type 0} (find : List A → A → List B) (done : List A) (x : A) (xs : List A) (y : B) → Contains (find done x) y → FoundAfter find done (x ∷ xs) y
found_here find done x xs y c = (0, omega arith, λ none. subst (λ d. Contains (find d x) y) (sym (append-nil done)) c)

found_later : {A B : Type 0} (find : List A → A → List B) (done : List A) (x : A) (xs : List A) (y : B) → FoundAfter find (done ++ x ∷ []) xs y → FoundAfter find done (x ∷ xs) y
found_later find done x xs y (k, l, c) = (suc k, omega (arith, l), λ none. subst (λ d. Contains (find d (get_or xs k none)) y) (append_assoc done (x ∷ []) (take k xs)) (c none))

found : {A B : Type 0} (find : List A → A → List B) (done xs : List A) (y : B) → Contains (each_after find done xs) y → FoundAfter find done xs y
found find done [] y (k, l, c) = absurd (omega (arith, l))
found find done (x ∷ xs) y c =
    elim (Contains-append_cases (find done x) (each_after find (done ++ x ∷ []) xs) y c) [
      | inl here ↦ found_here find done x xs y here
      | inr later ↦ found_later find done x xs y (found find (done ++ x ∷ []) xs y later)
    ]

finds : {A B : Type 0} (find : List A → A → List B) (done xs : List A) (k : ℕ) (y : B) → k < length xs → ((none : A) → Contains (find (done ++ take k xs) (get_or xs k none)) y) → Contains (each_after find done xs) y
finds find done [] k y l c = absurd (omega arith)
finds find done (x ∷ xs) zero y l c =
    Contains-append_left (find done x) (each_after find (done ++ x ∷ []) xs) y (subst (λ d. Contains (find d x) y) (append-nil done) (c x))
finds find done (x ∷ xs) (suc k) y l c =
    Contains-append_right (find done x) (each_after find (done ++ x ∷ []) xs) y
    (finds find (done ++ x ∷ []) xs k y (omega arith) (λ none. subst (λ d. Contains (find d (get_or xs k none)) y) (sym (append_assoc done (x ∷ []) (take k xs))) (c none)))

-- what is found from the front is what is found at one of the elements
pub each_finds : {A B : Type 0} → EachFinds A B
each_finds find xs y = (found find [] xs y, λ w. finds find [] xs w.0 y w.1 w.2)

-- answers grow behind those that are there already
grown_behind : {A B : Type 0} (f : List B → A → B) (done : List B) (xs : List A) → (more : List B) × (grown_after f done xs ≡ done ++ more)
grown_behind f done [] = ([], sym (append-nil done))
grown_behind f done (x ∷ xs) =
    let (more, e) = grown_behind f (done ++ f done x ∷ []) xs in
    (f done x ∷ more, e ∙ append_assoc done (f done x ∷ []) more)

length_grown_after : {A B : Type 0} (f : List B → A → B) (done : List B) (xs : List A) → length (grown_after f done xs) ≡ length done + length xs
length_grown_after f done [] = omega arith
length_grown_after f done (x ∷ xs) = omega (arith, length_grown_after f (done ++ f done x ∷ []) xs, length_push done (f done x))

grown_first : {A B : Type 0} (f : List B → A → B) (done : List B) (x : A) (xs : List A) (other : B) → (get_or (grown_after f done (x ∷ xs)) (length done) other ≡ f done x) × (take (length done) (grown_after f done (x ∷ xs)) ≡ done)
grown_first f done x xs other =
    let (more, e) = grown_behind f (done ++ f done x ∷ []) xs in
    let whole : grown_after f done (x ∷ xs) ≡ done ++ f done x ∷ more = e ∙ append_assoc done (f done x ∷ []) more in
    (ap (λ ys. get_or ys (length done) other) whole ∙ get_or_at done (f done x) more other (length done) refl, ap (take (length done)) whole ∙ take_at done (f done x ∷ more) (length done) refl)

grown_after_at : {A B : Type 0} (f : List B → A → B) (done : List B) (xs : List A) (n k : ℕ) (none : A) (other : B) → n ≡ length done + k → k < length xs → get_or (grown_after f done xs) n other ≡ f (take n (grown_after f done xs)) (get_or xs k none)
grown_after_at f done [] n k none other e l = absurd (omega arith)
grown_after_at f done (x ∷ xs) n zero none other e l =
    let here : n ≡ length done = omega arith in
    let (is, front) = grown_first f done x xs other in
    ap (λ m. get_or (grown_after f done (x ∷ xs)) m other) here ∙ is ∙ ap (λ d. f d x) (sym front) ∙ ap (λ m. f (take m (grown_after f done (x ∷ xs))) x) (sym here)
grown_after_at f done (x ∷ xs) n (suc k) none other e l = grown_after_at f (done ++ f done x ∷ []) xs n k none other (omega (arith, length_push done (f done x))) (omega arith)

-- there are as many answers as elements
pub length_grown : {A B : Type 0} (f : List B → A → B) (xs : List A) → length (grown f xs) ≡ length xs
length_grown f xs = omega (arith, length_grown_after f [] xs)

-- each is made from those before it
pub grown_at : {A B : Type 0} (f : List B → A → B) (xs : List A) (k : ℕ) (none : A) (other : B) → k < length xs → get_or (grown f xs) k other ≡ f (take k (grown f xs)) (get_or xs k none)
grown_at f xs k none other l = grown_after_at f [] xs k k none other (omega arith) l

-- a list that has an element at k has an element
some_element : {A : Type 0} (xs : List A) (k : ℕ) → k < length xs → A
some_element [] k l = absurd (omega arith)
some_element (x ∷ xs) k l = x

same_front : {A B : Type 0} (f : List B → A → B) (xs : List A) (ys zs : List B) → IsGrown f xs ys → IsGrown f xs zs → (k : ℕ) → k ≤ length xs → take k ys ≡ take k zs
same_front f xs ys zs p q zero l = refl
same_front f xs ys zs p q (suc k) l =
    let before = same_front f xs ys zs p q k (omega arith) in
    let none = some_element xs k (omega arith) in
    let other = f (take k ys) (get_or xs k none) in
    subst (λ n. take n ys ≡ take n zs) (add-one k)
    (take_more_same ys zs k other (omega (arith, p.0)) (omega (arith, q.0)) before
    (p.1 k none other (omega arith) ∙ ap (λ d. f d (get_or xs k none)) before ∙ sym (q.1 k none other (omega arith))))

-- no other answers are made so
only_grown : {A B : Type 0} (f : List B → A → B) (xs : List A) (ys zs : List B) → IsGrown f xs ys → IsGrown f xs zs → ys ≡ zs
only_grown f xs ys zs p q = sym (take_all (length xs) ys (omega (arith, p.0))) ∙ same_front f xs ys zs p q (length xs) (omega arith) ∙ take_all (length xs) zs (omega (arith, q.0))

is_grown : {A B : Type 0} (f : List B → A → B) (xs : List A) → IsGrown f xs (grown f xs)
is_grown f xs = (length_grown f xs, grown_at f xs)

pub grown_is : {A B : Type 0} → GrownIs A B
grown_is f xs = (is_grown f xs, λ ys p. only_grown f xs ys (grown f xs) p (is_grown f xs))

-- there are as many rows as elements
pub length_numbered : {A B : Type 0} (f : ℕ → A → B) (xs : List A) → length (numbered f xs) ≡ length xs
length_numbered f xs = length_grown (λ rows x. f (length rows + 1) x) xs

-- the row behind k others has the number k + 1
pub numbered_at : {A B : Type 0} (f : ℕ → A → B) (xs : List A) (k : ℕ) (none : A) (other : B) → k < length xs → get_or (numbered f xs) k other ≡ f (k + 1) (get_or xs k none)
numbered_at f xs k none other l =
    grown_at (λ rows x. f (length rows + 1) x) xs k none other l
    ∙ ap (λ n. f (n + 1) (get_or xs k none)) (length-take-le k (numbered f xs) (omega (arith, length_numbered f xs)))

pub numbered_is : {A B : Type 0} → NumberedIs A B
numbered_is f xs = (length_numbered f xs, numbered_at f xs)

pub list_laws_lem : {A B : Type 0} → ListLaws A B
list_laws_lem = (each_finds, grown_is, numbered_is)
