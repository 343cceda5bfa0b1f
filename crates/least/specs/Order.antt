-- Faults of rules in their order: by place, and then by number. Assumes nothing.
use Rattle.std.specs.Prelude.{true, ◌≡◌, ℕ, Bool, cond, false, ◌&&◌, ◌||◌, ◌==◌, nat_lt, List, [], ◌∷◌, Option, Some, None, All, Contains}
use Rattle.least.specs.declared.rule.Rule.{Rule}
use Rattle.least.specs.declared.rule.Rule.TheVariants.{Redeclared, OutOfRange, Undeclared, OffEnds, Widths, StepInteger, BusOrder, LastStep, Overflow}
use Rattle.least.specs.declared.rule.RuleFault.{RuleFault}
use Rattle.least.specs.declared.least.Least.{Least}

-- the number of each rule
abbrev pub rule_number : Rule → ℕ
rule_number Redeclared = 8
rule_number OutOfRange = 9
rule_number Undeclared = 10
rule_number OffEnds = 11
rule_number Widths = 12
rule_number StepInteger = 13
rule_number BusOrder = 14
rule_number LastStep = 15
rule_number Overflow = 16

abbrev pub fault_at : ℕ → Rule → RuleFault
fault_at place rule = record { place = place; rule = rule }

-- one fault stands before another: at an earlier place, or there with a lower number
abbrev pub before : RuleFault → RuleFault → Bool
before f g = nat_lt f.place g.place || (f.place == g.place && nat_lt (rule_number f.rule) (rule_number g.rule))

-- it is one of the faults, and none of them stands before it
pub record IsLeast (faults : List RuleFault) (fault : RuleFault) : Type 0 where
  pub among : Contains faults fault
  pub first : All (λ other. before other fault ≡ false) faults

-- the lesser of two, where either may be none
abbrev pub lesser : Option RuleFault → Option RuleFault → Option RuleFault
lesser None g = g
lesser (Some f) None = Some f
lesser (Some f) (Some g) = cond (before g f) (Some g) (Some f)

-- a fault is told rather than the one met before it, if any was
abbrev pub tells : Option RuleFault → RuleFault → Bool
tells None fault = true
tells (Some met) fault = before fault met

-- the least of a list; that it is so, Laws says
abbrev pub least : List RuleFault → Option RuleFault
least [] = None
least (f ∷ fs) = lesser (Some f) (least fs)

-- a fault, if the test is true
abbrev pub fault_if : Bool → ℕ → Rule → List RuleFault
fault_if test place rule = cond test (fault_at place rule ∷ []) []

-- what is least after these faults were met, too
pub record Notes (old : Least) (faults : List RuleFault) (new : Least) : Type 0 where
  pub is : new.fault ≡ lesser old.fault (least faults)
