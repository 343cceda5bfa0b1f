-- What holds of each element of a list, of the rows made of it, and of lists that are grown part by part. Assumes nothing.
use Rattle.std.proofs.Common.{◌≡◌, ℕ, zero, suc, ◌+◌, ◌≤◌, List, [], ◌∷◌, ◌++◌, length, get_or, take, map, fold, All, sym, refl, ap, ◌∙◌, append_assoc, append-nil, length-append, ap₂, arith}
use Rattle.std.proofs.lemmas.List.{length_push, get_or_push, get_or_append_left}
pub use Rattle.least.proofs.Lists.{grown_append}
use Rattle.least.specs.Each.{each_after, each, grown_after, grown, numbered, row_at, last_of, IsRow}
use Rattle.soundness.proofs.Nil.{nil_left, nil_right, nil_at, length_grown}

-- what no fault says of each element
pub all_without : {A B : Type 0} (f : List A → A → List B) (P : A → Type 0) → ((before : List A) (x : A) → f before x ≡ [] → P x) → (xs : List A) → each f xs ≡ [] → All P xs
all_without f P says xs e = λ k d h. says (take k xs) (get_or xs k d) (nil_at f xs k d h e)

-- nothing is found at an element between others
pub nil_between : {A B : Type 0} (f : List A → A → List B) (done front : List A) (x : A) (rest : List A) → each_after f done (front ++ x ∷ rest) ≡ [] → f (done ++ front) x ≡ []
nil_between f done [] x rest e = ap (λ b. f b x) (append-nil done) ∙ nil_left (f done x) (each_after f (done ++ x ∷ []) rest) e
nil_between f done (y ∷ front) x rest e =
    ap (λ b. f b x) (sym (append_assoc done (y ∷ []) front)) ∙ nil_between f (done ++ y ∷ []) front x rest (nil_right (f done y) (each_after f (done ++ y ∷ []) (front ++ x ∷ rest)) e)

-- what holds of each element holds of each row
pub each_row : {A : Type 0} (P : A → Type 0) (none : A) (xs : List A) → All P xs → (n : ℕ) → IsRow xs n → P (row_at none xs n)
each_row P none xs a zero h = absurd (let z = h.0 in omega arith)
each_row P none xs a (suc n) h = a n none (let z = h.1 in omega arith)

-- rows with their numbers, from one on
abbrev pub numbered_from : {A B : Type 0} → (ℕ → A → B) → ℕ → List A → List B
numbered_from f n [] = []
numbered_from f n (x ∷ xs) = f n x ∷ numbered_from f (n + 1) xs

numbered_after : {A B : Type 0} (f : ℕ → A → B) (done : List B) (xs : List A) (n : ℕ) → n ≡ length done + 1 → grown_after (λ rows x. f (length rows + 1) x) done xs ≡ done ++ numbered_from f n xs
numbered_after f done [] n e = sym (append-nil done)
numbered_after {B = B} f done (x ∷ xs) n e =
    let more : List B = done ++ f (length done + 1) x ∷ [] in
    numbered_after f more xs (n + 1) (let l = length_push done (f (length done + 1) x) in omega arith)
    ∙ append_assoc done (f (length done + 1) x ∷ []) (numbered_from f (n + 1) xs)
    ∙ ap (λ m. done ++ f m x ∷ numbered_from f (n + 1) xs) (sym e)

pub numbered_is : {A B : Type 0} (f : ℕ → A → B) (xs : List A) → numbered f xs ≡ numbered_from f 1 xs
numbered_is f xs = numbered_after f [] xs 1 (omega arith)

-- what is made of each row without its number
map_from : {A B C : Type 0} (f : ℕ → A → B) (g : B → C) (h : A → C) → ((n : ℕ) (x : A) → g (f n x) ≡ h x) → (n : ℕ) (xs : List A) → map g (numbered_from f n xs) ≡ map h xs
map_from f g h same n [] = refl
map_from f g h same n (x ∷ xs) = λ i. same n x i ∷ map_from f g h same (n + 1) xs i

pub map_numbered : {A B C : Type 0} (f : ℕ → A → B) (g : B → C) (h : A → C) → ((n : ℕ) (x : A) → g (f n x) ≡ h x) → (xs : List A) → map g (numbered f xs) ≡ map h xs
map_numbered f g h same xs = ap (map g) (numbered_is f xs) ∙ map_from f g h same 1 xs

unnumbered_from : {A B : Type 0} (f : A → B) (n : ℕ) (xs : List A) → numbered_from (λ n x. f x) n xs ≡ map f xs
unnumbered_from f n [] = refl
unnumbered_from f n (x ∷ xs) = ap (λ ys. f x ∷ ys) (unnumbered_from f (n + 1) xs)

pub unnumbered : {A B : Type 0} (f : A → B) (xs : List A) → numbered (λ n x. f x) xs ≡ map f xs
unnumbered f xs = numbered_is (λ n x. f x) xs ∙ unnumbered_from f 1 xs

extends : {A B : Type 0} (f : List B → A → B) (done : List B) (xs : List A) → (rest : List B) × (grown_after f done xs ≡ done ++ rest)
extends f done [] = ([], sym (append-nil done))
extends f done (x ∷ xs) = let (rest, e) = extends f (done ++ f done x ∷ []) xs in (f done x ∷ rest, e ∙ append_assoc done (f done x ∷ []) rest)

row_append : {A : Type 0} (none : A) (xs ys : List A) (n : ℕ) → n ≤ length xs → row_at none (xs ++ ys) n ≡ row_at none xs n
row_append none xs ys zero h = refl
row_append none xs ys (suc n) h = get_or_append_left xs ys none n (omega arith)

kept : {A B : Type 0} (none : B) (f : List B → A → B) (done : List B) (xs : List A) → row_at none (grown_after f done xs) (length done) ≡ last_of none done
kept none f done xs = let (rest, e) = extends f done xs in ap (λ ys. row_at none ys (length done)) e ∙ row_append none done rest (length done) (omega arith)

last_push : {A : Type 0} (none : A) (xs : List A) (x : A) → last_of none (xs ++ x ∷ []) ≡ x
last_push none xs x = ap (row_at none (xs ++ x ∷ [])) (let z : length (xs ++ x ∷ []) ≡ suc (length xs) = length_push xs x ∙ omega arith in z) ∙ get_or_push xs x none (length xs) refl

-- Where each answer is made from the last one, the row behind a part of the list is made from the row before it, along that part.
module _ {A B : Type 0} (none : B) (f : List B → A → B) (next : B → A → B) (all : List A)
    (goes : (front : List A) (x : A) (rest : List A) → all ≡ front ++ x ∷ rest → f (grown f front) x ≡ next (last_of none (grown f front)) x) where
  run : (front own more : List A) → all ≡ front ++ (own ++ more) → last_of none (grown f (front ++ own)) ≡ fold next (last_of none (grown f front)) own
  run front [] more e = ap (λ xs. last_of none (grown f xs)) (append-nil front)
  run front (x ∷ own) more e =
      let more_is : all ≡ (front ++ x ∷ []) ++ (own ++ more) = e ∙ sym (append_assoc front (x ∷ []) (own ++ more)) in
      ap (λ xs. last_of none (grown f xs)) (sym (append_assoc front (x ∷ []) own)) ∙ run (front ++ x ∷ []) own more more_is
      ∙ ap (λ y. fold next y own)
      (ap (last_of none) (grown_append f [] front (x ∷ [])) ∙ last_push none (grown f front) (f (grown f front) x) ∙ goes front x (own ++ more) e)

  pub runs : (front own more : List A) → all ≡ front ++ (own ++ more) → (n : ℕ) → n ≡ length front + length own → row_at none (grown f all) n ≡ fold next (last_of none (grown f front)) own
  runs front own more e n l =
      let parted : all ≡ (front ++ own) ++ more = e ∙ sym (append_assoc front own more) in
      let long : n ≡ length (grown f (front ++ own)) = l ∙ sym (length-append front own) ∙ sym (length_grown f (front ++ own)) in
      ap₂ (λ xs m. row_at none xs m) (ap (grown f) parted ∙ grown_append f [] (front ++ own) more) long ∙ kept none f (grown f (front ++ own)) more ∙ run front own more e
