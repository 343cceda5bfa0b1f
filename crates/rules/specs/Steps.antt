-- Steps, statements and exits: their faults. Assumes nothing.
use Rattle.std.specs.Prelude.{ℕ, ◌+◌, Bool, true, false, not, ◌&&◌, ◌||◌, List, [], ◌∷◌, ◌++◌, length, Option, Some, None, option_map, ◌==◌}
use Rattle.grammar.specs.declared.draft.Number.{Number}
use Rattle.grammar.specs.declared.draft.Listed.{Listed}
use Rattle.grammar.specs.declared.draft.Condition.{Condition}
use Rattle.grammar.specs.declared.draft.Statement.{Statement}
use Rattle.grammar.specs.declared.draft.Leaving.{Leaving}
use Rattle.grammar.specs.declared.draft.Leaving.TheVariants.{Next, Plain, Conditions, Dead}
use Rattle.grammar.specs.declared.draft.Step.{Step}
use Rattle.grammar.specs.declared.draft.Exit.{Exit}
use Rattle.least.specs.declared.rule.Rule.TheVariants.{StepInteger, LastStep}
use Rattle.least.specs.declared.rule.RuleFault.{RuleFault}
use Rattle.least.specs.Order.{fault_if}
use Rattle.least.specs.Each.{each, grown, row_at, last_of}
use Rattle.symbols.specs.Items.{overflows}
use Rattle.symbols.specs.Widths.{unless_faulty, disagree, unequal, width_at}
use Rattle.rules.specs.declared.measures.Side.{Side}
use Rattle.rules.specs.Targets.{no_side}

abbrev pub most_steps : ℕ
most_steps = 64

abbrev pub most_statements : ℕ
most_statements = 256

abbrev pub most_exits : ℕ
most_exits = 512

-- a step is written with that integer
abbrev pub is_step : List Step → ℕ → Bool
is_step [] n = false
is_step (s ∷ ss) n = s.integer.value == n || is_step ss n

-- 13: a named step is missing; steps count from 1, so 0 always is
abbrev pub is_missing : List Step → ℕ → Bool
is_missing steps n = n == 0 || not (is_step steps n)

abbrev pub missing : List Step → Number → List RuleFault
missing steps n = fault_if (is_missing steps n.value) n.place StepInteger

-- an exit's faults: 13, and 16 at the first exit beyond the table
abbrev pub exit_faults : List Step → ℕ → Exit → List RuleFault
exit_faults steps rows e = missing steps e.entered.integer ++ overflows rows most_exits e.entered.integer.place

-- how many integers a branch's list has up to one of them, unless one has a fault
abbrev pub count_up_to : Option ℕ → Option ℕ → Option ℕ
count_up_to None before = Some 1
count_up_to (Some place) before = option_map (λ n. n + 1) before

abbrev pub exit_count : List Step → List (Option ℕ) → Exit → Option ℕ
exit_count steps before e = unless_faulty (exit_faults steps (length before) e) (count_up_to e.entered.comma (last_of None before))

abbrev pub counts : List Step → List Exit → List (Option ℕ)
counts steps exits = grown (exit_count steps) exits

abbrev pub exits_faults : List Step → List Exit → List RuleFault
exits_faults steps exits = each (λ before e. exit_faults steps (length before) e) exits

-- 12: at the *, the condition is not one bit
abbrev pub condition_faults : List (Option ℕ) → Option Condition → List RuleFault
condition_faults widths None = []
condition_faults widths (Some c) = disagree unequal c.place (width_at widths c.node) (Some 1)

-- 16 at the first statement beyond the table; 12 at the *; 12 at the = or <=, targets and value are not equally wide
abbrev pub statement_faults : List Side → List (Option ℕ) → ℕ → Statement → List RuleFault
statement_faults sides widths rows s =
    overflows rows most_statements s.place
    ++ condition_faults widths s.condition
    ++ disagree unequal s.sign (row_at no_side sides s.last_target).width (width_at widths s.value)

abbrev pub statements_faults : List Side → List (Option ℕ) → List Statement → List RuleFault
statements_faults sides widths statements = each (λ before s. statement_faults sides widths (length before) s) statements

-- 12: at the /, there are not as many bits as integers
abbrev pub branch_faults : List (Option ℕ) → List (Option ℕ) → Leaving → List RuleFault
branch_faults widths counts Next = []
branch_faults widths counts Plain = []
branch_faults widths counts (Conditions c last) = disagree unequal c.place (width_at widths c.node) (width_at counts last)
branch_faults widths counts Dead = []

-- the step may pass control to the one behind it
abbrev pub goes_on : Leaving → Bool
goes_on Next = true
goes_on Plain = false
goes_on (Conditions c last) = true
goes_on Dead = false

-- of so many steps, behind some. 13: its integer is not the next one from 1; 15: it is the last and goes on; 16 at the first step
-- beyond the table; 12
abbrev pub step_faults : List (Option ℕ) → List (Option ℕ) → ℕ → ℕ → Step → List RuleFault
step_faults widths counts steps rows s =
    fault_if (not (s.integer.value == rows + 1)) s.integer.place StepInteger
    ++ fault_if (rows + 1 == steps && goes_on s.leaving) s.integer.place LastStep
    ++ overflows rows most_steps s.integer.place
    ++ branch_faults widths counts s.leaving

abbrev pub steps_faults : List (Option ℕ) → List (Option ℕ) → List Step → List RuleFault
steps_faults widths counts steps = each (λ before s. step_faults widths counts (length steps) (length before) s) steps

-- 13: a step of CONTROLRESET is missing
abbrev pub resets_faults : List Step → List Listed → List RuleFault
resets_faults steps resets = each (λ before n. missing steps n.integer) resets
