-- What is known of each of the names that stand one behind the other. Assumes nothing.
use Rattle.std.proofs.Common.{◌≡◌, ℕ, zero, suc, ◌+◌, ◌<◌, ◌≤◌, List, [], ◌∷◌, length, get_or, All, subst, arith}
use Rattle.std.proofs.lemmas.List.Elements.{All-nil, All-cons}
use Rattle.grammar.specs.declared.draft.Item.{Item}
use Rattle.soundness.specs.Layout.{NamesWithin}

-- a name that is not empty ends before a place
abbrev Inside : ℕ → Item → Type 0
Inside to x = (1 ≤ x.name.len) × (x.name.place + x.name.len ≤ to)

names_between : (from to : ℕ) (xs : List Item) → NamesWithin from to xs → from ≤ to
names_between from to [] h = h
names_between from to (x ∷ xs) h = let z = names_between (x.name.place + x.name.len) to xs h.2 in omega (arith, h.0)

pub names_inside : (from to : ℕ) (xs : List Item) → NamesWithin from to xs → All (Inside to) xs
names_inside from to [] h = All-nil (Inside to)
names_inside from to (x ∷ xs) h =
    All-cons (Inside to) x xs (h.1, names_between (x.name.place + x.name.len) to xs h.2) (names_inside (x.name.place + x.name.len) to xs h.2)

pub names_in_order : (from to : ℕ) (xs : List Item) (none : Item) → NamesWithin from to xs → (k : ℕ) → k + 1 < length xs
    → (get_or xs k none).name.place + (get_or xs k none).name.len ≤ (get_or xs (k + 1) none).name.place
names_in_order from to [] none h k l = absurd (omega arith)
names_in_order from to (x ∷ []) none h k l = absurd (omega arith)
names_in_order from to (x ∷ y ∷ xs) none h zero l = h.2.0
names_in_order from to (x ∷ y ∷ xs) none h (suc k) l =
    let next : suc (k + 1) ≡ suc k + 1 = omega arith in
    subst (λ n. (get_or (y ∷ xs) k none).name.place + (get_or (y ∷ xs) k none).name.len ≤ (get_or (x ∷ y ∷ xs) n none).name.place) next
    (names_in_order (x.name.place + x.name.len) to (y ∷ xs) none h.2 k (omega arith))
