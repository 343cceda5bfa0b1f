-- There is one way to split off the rows in front that belong to a number. Assumes nothing.
use Rattle.std.proofs.Common.{◌≡◌, ℕ, List, [], ◌∷◌, ◌++◌, All, refl, sym, ap₂, ◌∙◌, subst}
use Rattle.std.proofs.lemmas.List.Elements.{All-head, All-tail}
use Rattle.inspect_layout.specs.Inner.{Ends, Front}

module _ {A : Type 0} (owner : A → ℕ) (n : ℕ) where
  ends_first : (x : A) (xs ys : List A) → ys ≡ x ∷ xs → Ends owner n ys → owner x ≡ n → ⊥
  ends_first x xs ys e h = subst (Ends owner n) e h

  one_split : (own others front rest : List A) → own ++ others ≡ front ++ rest → All (λ x. owner x ≡ n) own → All (λ x. owner x ≡ n) front → Ends owner n others → Ends owner n rest
      → (own ≡ front) × (others ≡ rest)
  one_split [] others [] rest e p q h k = (refl, e)
  one_split [] others (y ∷ front) rest e p q h k = absurd (ends_first y (front ++ rest) others e h (All-head (λ x. owner x ≡ n) y front q))
  one_split (x ∷ own) others [] rest e p q h k = absurd (ends_first x (own ++ others) rest (sym e) k (All-head (λ x. owner x ≡ n) x own p))
  one_split (x ∷ own) others (y ∷ front) rest e p q h k =
      let first : x ≡ y = cc in
      let more : own ++ others ≡ front ++ rest = cc in
      let (f, g) = one_split own others front rest more (All-tail (λ x. owner x ≡ n) x own p) (All-tail (λ x. owner x ≡ n) y front q) h k in
      (ap₂ (λ z zs. z ∷ zs) first f, g)

  pub one_front : {rows own others front rest : List A} → Front owner n rows own others → Front owner n rows front rest → (own ≡ front) × (others ≡ rest)
  one_front {own = own} {others = others} {front = front} {rest = rest} p q = one_split own others front rest (sym p.whole ∙ q.whole) p.belong q.belong p.ends q.ends

  -- rows of another number, and then rows that begin with one of another number
  pub ends_behind : (m : ℕ) (own others : List A) → (m ≡ n → ⊥) → All (λ x. owner x ≡ m) own → Ends owner n others → Ends owner n (own ++ others)
  ends_behind m [] others other p h = h
  ends_behind m (x ∷ own) others other p h = λ e. other (sym (All-head (λ x. owner x ≡ m) x own p) ∙ e)
