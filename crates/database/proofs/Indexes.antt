-- The index of a symbol that a name stands for is that of an item. Assumes nothing.
use Rattle.std.proofs.Common.{◌≡◌, ℕ, sym, ◌∙◌, subst, ◌+◌, ◌<◌, suc, Bool, true, false, cond, List, [], ◌∷◌, length, Option, Some, None, option_map, arith}
use Rattle.std.specs.Prelude.{IfSome}
use Rattle.grammar.specs.declared.draft.Name.{Name}
use Rattle.grammar.specs.declared.draft.Item.{Item}
use Rattle.symbols.specs.declared.references.Standing.{Standing}
use Rattle.symbols.specs.Names.{same_name, index_of}
use Rattle.symbols.specs.References.{may_stand, item_at, standing_at, symbol_at}

abbrev Below : ℕ → Option ℕ → Type 0
Below count found = IfSome found (λ k. k < count)

later : (here : Bool) (found : Option ℕ) (count : ℕ) → Below count found → Below (suc count) (cond here (Some 0) (option_map (λ k. 1 + k) found))
later true found count h = omega arith
later false None count h = tt
later false (Some k) count h = omega arith

index_below : (text : List ℕ) (n : Name) (items : List Item) → Below (length items) (index_of text n items)
index_below text n [] = tt
index_below text n (x ∷ xs) = later (same_name text x.name n) (index_of text n xs) (length xs) (index_below text n xs)

standing : (stands : Bool) (k count : ℕ) → k < count → Below count (cond stands (Some k) None)
standing true k count h = h
standing false k count h = tt

standing_below : (items : List Item) (s : Standing) (found : Option ℕ) (count : ℕ) → Below count found → Below count (standing_at items s found)
standing_below items s None count h = tt
standing_below items s (Some k) count h = standing (may_stand s (item_at items k).class) k count h

symbol_below : (text : List ℕ) (items : List Item) (s : Standing) (n : Name) → Below (length items) (symbol_at text items s n)
symbol_below text items s n = standing_below items s (index_of text n items) (length items) (index_below text n items)

-- the index found is below the number of items
pub index_found : (text : List ℕ) (items : List Item) (s : Standing) (n : Name) (found : Option ℕ) → found ≡ symbol_at text items s n → (k : ℕ) → found ≡ Some k → k < length items
index_found text items s n found e k is = subst (Below (length items)) (sym e ∙ is) (symbol_below text items s n)
