-- Lists judged from the front, each element with those before it. Assumes nothing.
use Rattle.std.specs.Prelude.{ℕ, ◌+◌, ◌≤◌, List, [], ◌∷◌, ◌++◌, length, get_or}

-- what each element gives, seen with those before it, side by side; `done` are those already passed
abbrev pub each_after : {A B : Type 0} → (List A → A → List B) → List A → List A → List B
each_after f done [] = []
each_after f done (x ∷ xs) = f done x ++ each_after f (done ++ x ∷ []) xs

abbrev pub each : {A B : Type 0} → (List A → A → List B) → List A → List B
each f xs = each_after f [] xs

-- one answer for each element, made from the answers for those before it; `done` are the answers already there
abbrev pub grown_after : {A B : Type 0} → (List B → A → B) → List B → List A → List B
grown_after f done [] = done
grown_after f done (x ∷ xs) = grown_after f (done ++ f done x ∷ []) xs

abbrev pub grown : {A B : Type 0} → (List B → A → B) → List A → List B
grown f xs = grown_after f [] xs

-- one row for each element, made with the row's number; rows count from 1
abbrev pub numbered : {A B : Type 0} → (ℕ → A → B) → List A → List B
numbered f xs = grown (λ rows x. f (length rows + 1) x) xs

-- what stands in a row; rows count from 1, and 0 is none
abbrev pub row_at : {A : Type 0} → A → List A → ℕ → A
row_at none xs n = get_or (none ∷ xs) n none

-- what stands in the last row
abbrev pub last_of : {A : Type 0} → A → List A → A
last_of none xs = row_at none xs (length xs)

-- there is such a row
abbrev pub IsRow : {A : Type 0} → List A → ℕ → Type 0
IsRow xs n = (1 ≤ n) × (n ≤ length xs)
