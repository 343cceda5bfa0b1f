-- The first item of a name, looked for from the front. Assumes nothing.
use Rattle.std.proofs.Common.{◌≡◌, ℕ, ◌+◌, ◌<◌, ◌≤◌, true, false, List, length, get_or, drop, Some, None, Option, option_map, sym, refl, ap, ◌∙◌, arith}
use Rattle.std.proofs.lemmas.List.{drop_more, drop_all}
use Rattle.std.proofs.lemmas.Bool.{cond-true, cond-false}
use Rattle.grammar.specs.declared.draft.Item.{Item}
use Rattle.grammar.specs.declared.draft.Name.{Name}
use Rattle.symbols.specs.Names.{same_name, index_of}

-- at one item
module _ (text : List ℕ) (n : Name) (items : List Item) (i : ℕ) (d : Item) (h : i < length items) where
  pub index_here : same_name text (get_or items i d).name n ≡ true → index_of text n (drop i items) ≡ Some 0
  index_here e = ap (index_of text n) (drop_more items i d h) ∙ cond-true _ _ _ e

  pub index_on : same_name text (get_or items i d).name n ≡ false → index_of text n (drop i items) ≡ option_map (λ k. 1 + k) (index_of text n (drop (i + 1) items))
  index_on e = ap (index_of text n) (drop_more items i d h) ∙ cond-false _ _ _ e

shifted : (o : Option ℕ) (i : ℕ) → option_map (λ k. i + k) (option_map (λ k. 1 + k) o) ≡ option_map (λ k. i + 1 + k) o
shifted None i = refl
shifted (Some k) i = let e : i + (1 + k) ≡ i + 1 + k = omega arith in ap Some e

-- from the place i on, to the whole
pub found_here : (o p : Option ℕ) (i : ℕ) → o ≡ option_map (λ k. i + k) p → p ≡ Some 0 → Some i ≡ o
found_here o p i e f = let z : i + 0 ≡ i = omega arith in sym (e ∙ ap (option_map (λ k. i + k)) f ∙ ap Some z)

pub found_on : (o p q : Option ℕ) (i : ℕ) → o ≡ option_map (λ k. i + k) p → p ≡ option_map (λ k. 1 + k) q → o ≡ option_map (λ k. i + 1 + k) q
found_on o p q i e f = e ∙ ap (option_map (λ k. i + k)) f ∙ shifted q i

pub found_none : (text : List ℕ) (n : Name) (items : List Item) (o : Option ℕ) (i : ℕ) → length items ≤ i → o ≡ option_map (λ k. i + k) (index_of text n (drop i items)) → None ≡ o
found_none text n items o i h e = sym (e ∙ ap (λ d. option_map (λ k. i + k) (index_of text n d)) (drop_all i items h))
