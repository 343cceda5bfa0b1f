-- Widths of sides. A side with a fault in it has no width and is not compared. Assumes nothing.
use Rattle.std.specs.Prelude.{ℕ, ◌+◌, Bool, not, ◌||◌, List, [], ◌∷◌, Option, Some, None, ◌==◌, nat_lt}
use Rattle.least.specs.declared.rule.Rule.TheVariants.{Widths}
use Rattle.least.specs.declared.rule.RuleFault.{RuleFault}
use Rattle.least.specs.Order.{fault_if}
use Rattle.least.specs.Each.{row_at}
use Rattle.symbols.specs.Items.{most_bits}

-- the width of a side, where these faults were found in it
abbrev pub unless_faulty : List RuleFault → Option ℕ → Option ℕ
unless_faulty [] width = width
unless_faulty (f ∷ fs) width = None

-- what two widths make, if both sides have one
abbrev pub both : (ℕ → ℕ → ℕ) → Option ℕ → Option ℕ → Option ℕ
both f None b = None
both f (Some a) None = None
both f (Some a) (Some b) = Some (f a b)

-- 12: a fault at a place, if both sides have a width and these disagree
abbrev pub disagree : (ℕ → ℕ → Bool) → ℕ → Option ℕ → Option ℕ → List RuleFault
disagree bad place None b = []
disagree bad place (Some a) None = []
disagree bad place (Some a) (Some b) = fault_if (bad a b) place Widths

-- side by side, they pass 32 bits
abbrev pub wide : ℕ → ℕ → Bool
wide a b = nat_lt most_bits (a + b)

-- bit by bit, they are neither equal nor is one of them a single bit, which would be repeated
abbrev pub unlike : ℕ → ℕ → Bool
unlike a b = not (a == b || a == 1 || b == 1)

abbrev pub unequal : ℕ → ℕ → Bool
unequal a b = not (a == b)

-- A list whose parts stand side by side, from its first part up to one of them: a part is behind a comma, whose place is told,
-- or is the first. At the comma, the faults; and the width up to here.
abbrev pub comma_faults : Option ℕ → Option ℕ → Option ℕ → List RuleFault
comma_faults None before own = []
comma_faults (Some place) before own = disagree wide place before own

abbrev pub width_up_to : Option ℕ → Option ℕ → Option ℕ → Option ℕ
width_up_to None before own = own
width_up_to (Some place) before own = unless_faulty (disagree wide place before own) (both ◌+◌ before own)

-- the width of the side that stands in a row, if there is such a row and it has one
abbrev pub width_at : List (Option ℕ) → ℕ → Option ℕ
width_at widths n = row_at None widths n
