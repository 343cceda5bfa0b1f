-- Lists judged from the front in which nothing was found, and what stands in the rows of a grown list. Assumes nothing.
use Rattle.std.proofs.Common.{◌≡◌, ℕ, zero, suc, ◌+◌, ◌-◌, ◌<◌, ◌≤◌, Bool, true, false, List, [], ◌∷◌, ◌++◌, length, get_or, take, map, Option, ◌==◌, sym, refl, ap, ◌∙◌, subst, ⊎_elim, take_all, take-take, take_at, get_or-take, length-take-le, arith}
use Rattle.std.proofs.lemmas.List.{append-nil, append_assoc, length_push, get_or-map}
use Rattle.std.proofs.lemmas.Bool.{cases_lt}
pub use Rattle.least.proofs.Finds.{length_grown, length_numbered, grown_at, numbered_at}
pub use Rattle.least.proofs.Lists.{grown_more}
use Rattle.least.specs.declared.rule.Rule.{Rule}
use Rattle.least.specs.declared.rule.RuleFault.{RuleFault}
use Rattle.least.specs.Order.{fault_if}
use Rattle.least.specs.Each.{each_after, each, grown_after, grown, numbered, row_at, last_of, IsRow}
use Rattle.symbols.specs.Items.{overflows}
use Rattle.symbols.specs.Widths.{unless_faulty}

-- the parts of an empty list are empty
pub nil_left : {A : Type 0} (xs ys : List A) → xs ++ ys ≡ [] → xs ≡ []
nil_left [] ys e = refl
nil_left (x ∷ xs) ys e = let z : ◌≡◌ {A = ℕ} (length (x ∷ (xs ++ ys))) 0 = ap length e in absurd (omega arith)

pub nil_right : {A : Type 0} (xs ys : List A) → xs ++ ys ≡ [] → ys ≡ []
nil_right [] ys e = e
nil_right (x ∷ xs) ys e = let z : ◌≡◌ {A = ℕ} (length (x ∷ (xs ++ ys))) 0 = ap length e in absurd (omega arith)

-- a test that gave no fault is false
pub test_false : (test : Bool) (place : ℕ) (rule : Rule) → fault_if test place rule ≡ [] → test ≡ false
test_false true place rule e = let z : ◌≡◌ {A = ℕ} 1 0 = ap length e in absurd (omega arith)
test_false false place rule e = refl

-- a side without faults has its width
pub width_kept : (fs : List RuleFault) (width : Option ℕ) → fs ≡ [] → unless_faulty fs width ≡ width
width_kept fs width e = ap (λ x. unless_faulty x width) e

-- nothing was found at an element
nil_at_after : {A B : Type 0} (f : List A → A → List B) (done xs : List A) (k : ℕ) (none : A) → k < length xs → each_after f done xs ≡ [] → f (done ++ take k xs) (get_or xs k none) ≡ []
nil_at_after f done [] k none h e = absurd (omega arith)
nil_at_after f done (x ∷ xs) zero none h e = ap (λ b. f b x) (append-nil done) ∙ nil_left (f done x) (each_after f (done ++ x ∷ []) xs) e
nil_at_after f done (x ∷ xs) (suc k) none h e =
    ap (λ b. f b (get_or xs k none)) (sym (append_assoc done (x ∷ []) (take k xs)))
    ∙ nil_at_after f (done ++ x ∷ []) xs k none (omega arith) (nil_right (f done x) (each_after f (done ++ x ∷ []) xs) e)

pub nil_at : {A B : Type 0} (f : List A → A → List B) (xs : List A) (k : ℕ) (none : A) → k < length xs → each f xs ≡ [] → f (take k xs) (get_or xs k none) ≡ []
nil_at f xs k none h e = nil_at_after f [] xs k none h e

-- the front of a grown list is grown from the front
front_after : {A B : Type 0} (f : List B → A → B) (done : List B) (xs : List A) → take (length done) (grown_after f done xs) ≡ done
front_after f done [] = take_all (length done) done (omega arith)
front_after {B = B} f done (x ∷ xs) =
    let more : List B = done ++ f done x ∷ [] in
    let e : length more ≡ length done + 1 = length_push done (f done x) in
    sym (take-take (length done) (length more) (grown_after f more xs) (omega arith)) ∙ ap (take (length done)) (front_after f more xs) ∙ take_at done (f done x ∷ []) (length done) refl

take_after : {A B : Type 0} (f : List B → A → B) (done : List B) (xs : List A) (k n : ℕ) → n ≡ length done + k → k ≤ length xs → take n (grown_after f done xs) ≡ grown_after f done (take k xs)
take_after f done xs zero n e h = ap (λ m. take m (grown_after f done xs)) (let z : n ≡ length done = omega arith in z) ∙ front_after f done xs
take_after f done [] (suc k) n e h = absurd (omega arith)
take_after f done (x ∷ xs) (suc k) n e h = let l = length_push done (f done x) in take_after f (done ++ f done x ∷ []) xs k n (omega arith) (omega arith)

pub take_grown : {A B : Type 0} (f : List B → A → B) (xs : List A) (k : ℕ) → k ≤ length xs → take k (grown f xs) ≡ grown f (take k xs)
take_grown f xs k h = take_after f [] xs k k (omega arith) h

-- rows count from 1
pub row_next : {A : Type 0} (none : A) (xs : List A) (n : ℕ) → 1 ≤ n → row_at none xs n ≡ get_or xs (n - 1) none
row_next none xs zero h = absurd (omega arith)
row_next none xs (suc k) h = ap (λ m. get_or xs m none) (let z : k ≡ suc k - 1 = omega arith in z)

-- the rows up to some
pub row_taken : {A : Type 0} (none : A) (xs : List A) (k n : ℕ) → n ≤ k → row_at none (take k xs) n ≡ row_at none xs n
row_taken none xs k zero h = refl
row_taken none xs k (suc n) h = get_or-take k xs n none (omega arith)

pub last_taken : {A : Type 0} (none : A) (xs : List A) (k : ℕ) → k ≤ length xs → last_of none (take k xs) ≡ row_at none xs k
last_taken none xs k h = ap (row_at none (take k xs)) (length-take-le k xs h) ∙ row_taken none xs k k (omega arith)

-- the rows of grown and of mapped lists
pub row_grown : {A B : Type 0} (f : List B → A → B) (xs : List A) (n : ℕ) (none : A) (nothing : B) → IsRow xs n → row_at nothing (grown f xs) n ≡ f (take (n - 1) (grown f xs)) (row_at none xs n)
row_grown f xs n none nothing h =
    row_next nothing (grown f xs) n h.0 ∙ grown_at f xs (n - 1) none nothing (let l = h.1 in let m = h.0 in omega arith)
    ∙ ap (f (take (n - 1) (grown f xs))) (sym (row_next none xs n h.0))

pub row_numbered : {A B : Type 0} (f : ℕ → A → B) (xs : List A) (n : ℕ) (none : A) (nothing : B) → IsRow xs n → row_at nothing (numbered f xs) n ≡ f n (row_at none xs n)
row_numbered f xs n none nothing h =
    let one : 1 ≤ n = h.0 in
    let most : n ≤ length xs = h.1 in
    let same : n - 1 + 1 ≡ n = omega arith in
    row_next nothing (numbered f xs) n one ∙ numbered_at f xs (n - 1) none nothing (omega arith)
    ∙ ap (λ m. f m (get_or xs (n - 1) none)) same ∙ ap (f n) (sym (row_next none xs n one))

pub row_mapped : {A B : Type 0} (f : A → B) (xs : List A) (n : ℕ) (none : A) (nothing : B) → IsRow xs n → row_at nothing (map f xs) n ≡ f (row_at none xs n)
row_mapped f xs n none nothing h =
    let one : 1 ≤ n = h.0 in
    let most : n ≤ length xs = h.1 in
    row_next nothing (map f xs) n one ∙ get_or-map f xs (n - 1) none nothing (omega arith) ∙ ap f (sym (row_next none xs n one))

-- a row of as many is a row
pub same_row : {A B : Type 0} (xs : List A) (ys : List B) (n : ℕ) → length xs ≡ length ys → IsRow xs n → IsRow ys n
same_row xs ys n e h = (h.0, subst (λ m. n ≤ m) e h.1)

-- nothing was found at a row
pub nil_row : {A B : Type 0} (f : List A → A → List B) (xs : List A) (n : ℕ) (none : A) → IsRow xs n → each f xs ≡ [] → f (take (n - 1) xs) (row_at none xs n) ≡ []
nil_row f xs n none h e =
    let one : 1 ≤ n = h.0 in
    let most : n ≤ length xs = h.1 in
    ap (f (take (n - 1) xs)) (row_next none xs n one) ∙ nil_at f xs (n - 1) none (omega arith) e

-- the same where elements are judged by the answers for those before them
pub nil_grown : {A B C : Type 0} (faults : List B → A → List C) (f : List B → A → B) (xs : List A) (n : ℕ) (none : A) → IsRow xs n
    → each (λ before x. faults (grown f before) x) xs ≡ [] → faults (take (n - 1) (grown f xs)) (row_at none xs n) ≡ []
nil_grown faults f xs n none h e =
    let one : 1 ≤ n = h.0 in
    let most : n ≤ length xs = h.1 in
    ap (λ before. faults before (row_at none xs n)) (take_grown f xs (n - 1) (omega arith)) ∙ nil_row (λ before x. faults (grown f before) x) xs n none h e

-- by how many there are
pub nil_counted : {A C : Type 0} (faults : ℕ → A → List C) (xs : List A) (n : ℕ) (none : A) → IsRow xs n → each (λ before x. faults (length before) x) xs ≡ [] → faults (n - 1) (row_at none xs n) ≡ []
nil_counted faults xs n none h e =
    let one : 1 ≤ n = h.0 in
    let most : n ≤ length xs = h.1 in
    ap (λ m. faults m (row_at none xs n)) (sym (length-take-le (n - 1) xs (omega arith))) ∙ nil_row (λ before x. faults (length before) x) xs n none h e

-- where no row was the first beyond a table, the table is long enough
pub few : {A : Type 0} (f : List A → A → List RuleFault) (xs : List A) (size : ℕ) (place : A → ℕ)
    → ((before : List A) (x : A) → f before x ≡ [] → overflows (length before) size (place x) ≡ []) → each f xs ≡ [] → length xs ≤ size
few f [] size place over e = omega arith
few f (x ∷ xs) size place over e =
    ⊎_elim
    (λ h. let l : length (take size (x ∷ xs)) ≡ size = length-take-le size (x ∷ xs) (omega arith) in
    let f : (length (take size (x ∷ xs)) == size) ≡ false = test_false _ _ _ (over (take size (x ∷ xs)) (get_or (x ∷ xs) size x) (nil_at f (x ∷ xs) size x h e)) in
    absurd (grind (arith)))
    (λ h. h) (cases_lt size (length (x ∷ xs)))
