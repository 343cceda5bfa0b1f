-- Widths that are there and are 1 to 32. Assumes nothing.
use Rattle.std.proofs.Common.{◌≡◌, ℕ, ◌+◌, ◌≤◌, Bool, true, false, [], Option, Some, None, is_some, unwrap_or, true≢false, nat_lt, sym, ap, ap₂, ◌∙◌, arith}
use Rattle.symbols.specs.Widths.{both, disagree, wide}
use Rattle.database.specs.Soundness.{IsWidth}
use Rattle.soundness.proofs.Nil.{test_false}

-- a side has a width
pub record HasWidth (o : Option ℕ) : Type 0 where
  pub bits : ℕ
  pub is : o ≡ Some bits
  pub fits : IsWidth bits

-- two widths of one side are the same, and none is no width
pub some_same : (a b : ℕ) → Some a ≡ Some b → a ≡ b
some_same a b e = ap (λ o. unwrap_or o 0) e

pub none_some : {A : Type 0} (x : A) → None ≡ Some x → ⊥
none_some x e = let z : ◌≡◌ {A = Bool} false true = ap is_some e in absurd (true≢false (sym z))

-- sides side by side, without a fault
pub not_wide : (place : ℕ) (a b : Option ℕ) (m n : ℕ) → a ≡ Some m → b ≡ Some n → disagree wide place a b ≡ [] → m + n ≤ 32
not_wide place a b m n p q e =
    let f : nat_lt 32 (m + n) ≡ false = test_false (wide m n) place _ (ap₂ (disagree wide place) (sym p) (sym q) ∙ e) in
    grind arith

-- what two sides make
pub both_widths : (f : ℕ → ℕ → ℕ) (a b : Option ℕ) (m n : ℕ) → a ≡ Some m → b ≡ Some n → both f a b ≡ Some (f m n)
both_widths f a b m n p q = ap₂ (both f) p q
