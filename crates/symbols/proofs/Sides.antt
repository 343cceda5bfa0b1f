-- Faulty sides, which have no width. Assumes nothing.
use Rattle.std.proofs.Common.{◌≡◌, ℕ, Bool, true, false, cond, not, List, [], ◌∷◌, ◌++◌, None, Option, sym, refl, ap}
use Rattle.least.specs.declared.rule.Rule.{Rule}
use Rattle.least.specs.declared.rule.RuleFault.{RuleFault}
use Rattle.least.specs.Order.{fault_if}
use Rattle.symbols.specs.Widths.{unless_faulty}

-- faults here, and then there
pub unless_append : (xs ys : List RuleFault) (width : Option ℕ) → unless_faulty (xs ++ ys) width ≡ unless_faulty xs (unless_faulty ys width)
unless_append [] ys width = refl
unless_append (x ∷ xs) ys width = refl

pub unless_none : (xs : List RuleFault) → unless_faulty xs None ≡ None
unless_none [] = refl
unless_none (x ∷ xs) = refl

pub unless_if : (test : Bool) (place : ℕ) (rule : Rule) (width : Option ℕ) → unless_faulty (fault_if test place rule) width ≡ cond test None width
unless_if true place rule width = refl
unless_if false place rule width = refl

-- a fault more, behind the others
pub unless_more : (xs : List RuleFault) (test : Bool) (place : ℕ) (rule : Rule) (width : Option ℕ) → cond test None (unless_faulty xs width) ≡ unless_faulty (xs ++ fault_if test place rule) width
unless_more [] test place rule width = sym (unless_if test place rule width)
unless_more (x ∷ xs) true place rule width = refl
unless_more (x ∷ xs) false place rule width = refl

-- a fault more, before the others
pub unless_first : (test : Bool) (place : ℕ) (rule : Rule) (xs : List RuleFault) (width : Option ℕ) → cond test None (unless_faulty xs width) ≡ unless_faulty (fault_if test place rule ++ xs) width
unless_first true place rule xs width = refl
unless_first false place rule xs width = refl

-- a test turned about
pub flip : (r s : Bool) → s ≡ not r → r ≡ not s
flip true s e = sym (ap not e)
flip false s e = sym (ap not e)
