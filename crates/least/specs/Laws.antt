-- What holds of the least of faults, and of lists judged from the front. Assumes nothing.
use Rattle.std.specs.Prelude.{◌≡◌, ℕ, ◌+◌, ◌<◌, List, [], length, take, get_or, Some, None, Contains, ◌↔◌}
use Rattle.least.specs.declared.rule.RuleFault.{RuleFault}
use Rattle.least.specs.Order.{IsLeast, least}
use Rattle.least.specs.Each.{each, grown, numbered}

-- the least of a list is the one that none of the list stands before, if the list has one
abbrev pub LeastIs : Type 0
LeastIs = (faults : List RuleFault) → ((fault : RuleFault) → least faults ≡ Some fault ↔ IsLeast faults fault) × (least faults ≡ None ↔ faults ≡ [])

-- a list has one least fault at most
abbrev pub OneLeast : Type 0
OneLeast = (faults : List RuleFault) (fault other : RuleFault) → IsLeast faults fault → IsLeast faults other → fault ≡ other

abbrev pub LeastLaws : Type 0
LeastLaws = LeastIs × OneLeast

-- something is among what is found from the front exactly where it is found at one element, seen with those before it
abbrev pub EachFinds : Type 0 → Type 0 → Type 0
EachFinds A B = (find : List A → A → List B) (xs : List A) (y : B) →
    (Contains (each find xs) y ↔ ((k : ℕ) × (k < length xs) × ((none : A) → Contains (find (take k xs) (get_or xs k none)) y)))

-- answers of which each is made from those before it
abbrev pub IsGrown : {A B : Type 0} → (List B → A → B) → List A → List B → Type 0
IsGrown {A} {B} f xs ys = (length ys ≡ length xs) × ((k : ℕ) (none : A) (no : B) → k < length xs → get_or ys k no ≡ f (take k ys) (get_or xs k none))

-- grown answers are so, and no others are
abbrev pub GrownIs : Type 0 → Type 0 → Type 0
GrownIs A B = (f : List B → A → B) (xs : List A) → IsGrown f xs (grown f xs) × ((ys : List B) → IsGrown f xs ys → ys ≡ grown f xs)

-- the row made of an element has the element's number
abbrev pub NumberedIs : Type 0 → Type 0 → Type 0
NumberedIs A B = (f : ℕ → A → B) (xs : List A) →
    (length (numbered f xs) ≡ length xs) × ((k : ℕ) (none : A) (no : B) → k < length xs → get_or (numbered f xs) k no ≡ f (k + 1) (get_or xs k none))

abbrev pub ListLaws : Type 0 → Type 0 → Type 0
ListLaws A B = EachFinds A B × GrownIs A B × NumberedIs A B
