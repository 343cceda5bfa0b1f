-- The rules of control steps, as equations between letters. Assumes nothing.
use Rattle.std.specs.Prelude.{◌≡◌, ℕ, ◌+◌, ◌-◌, ◌<◌, ◌≤◌, Bool, cond, ◌&&◌, nat_lt, nat_le, ◌==◌, List, length, get_or, Option, Some, None}
use Rattle.level.specs.declared.letter.Letter.{Letter}
use Rattle.level.specs.declared.letter.Letter.TheVariants.{Zero, One, Unknown}
use Rattle.level.specs.Letters.{not_l, and_l, or_l, bool_letter}
use Rattle.least.specs.Each.{IsRow}
use Rattle.database.specs.declared.codes.StepKind.{StepKind}
use Rattle.database.specs.declared.codes.StepKind.TheVariants.{Next, Branch, Conditions, DeadEnd}
use Rattle.database.specs.Codes.{step_kind}
use Rattle.database.specs.Rows.{Database, step, statement, target, exit, node}
use Rattle.control.specs.Points.{rank_of, width_of, point_of, step_point, input_bits, held_bits, register_bits, held_step, held_count, offset, place}
use Rattle.control.specs.Letters.{Letters, joined, node_bit, node_letter}

-- the letter of a step
abbrev pub step_letter : Database → Letters → ℕ → Letter
step_letter d w s = w (step_point d s)

-- The guard of a statement: its step's letter, AND its condition if it has one. After CONTROLRESET it is 1.
abbrev pub guard : Database → Letters → ℕ → Letter
guard d w s =
    cond ((statement d s).step == 0) One
    (cond ((statement d s).condition == 0) (step_letter d w (statement d s).step)
    (and_l (step_letter d w (statement d s).step) (node_bit w (statement d s).condition 0)))

-- the guard of a target's statement
abbrev pub target_guard : Database → Letters → ℕ → Letter
target_guard d w t = guard d w (target d t).statement

-- a target names bit b of the symbol y
abbrev pub names : Database → ℕ → ℕ → ℕ → Bool
names d t y b = (target d t).symbol == y && (nat_le (target d t).first b && nat_le b (target d t).last)

-- the bit of its statement's value that a target gives to bit b of its symbol
abbrev pub target_value : Database → Letters → ℕ → ℕ → Letter
target_value d w t b = node_bit w (statement d (target d t).statement).value (offset d t + (b - (target d t).first))

-- the OR of f over those of the first n targets that name bit b of y; an empty OR is 0
unfoldable pub over_targets : Database → ℕ → ℕ → (ℕ → Letter) → ℕ → Letter
over_targets d y b f n = joined or_l Zero (λ i. cond (names d (i + 1) y b) (f (i + 1)) Zero) n

-- guard AND value, of one target
abbrev pub guarded : Database → Letters → ℕ → ℕ → Letter
guarded d w b t = and_l (target_guard d w t) (target_value d w t b)

-- the OR, over the targets naming a bit, of guard AND value
abbrev pub driven : Database → Letters → ℕ → ℕ → Letter
driven d w y b = over_targets d y b (guarded d w b) (length d.targets)

-- the OR of those guards
abbrev pub loaded : Database → Letters → ℕ → ℕ → Letter
loaded d w y b = over_targets d y b (target_guard d w) (length d.targets)

-- A register bit's next letter: what is loaded, OR the present letter AND NOT the OR of the guards.
abbrev pub next_bit : Database → Letters → ℕ → ℕ → Letter
next_bit d w y b = or_l (driven d w y b) (and_l (w (point_of d y b)) (not_l (loaded d w y b)))

-- What is passed along an exit: the letter of the step left, under conditions AND the exit's bit of them.
abbrev pub passed_by : Option StepKind → Database → Letters → ℕ → Letter
passed_by None d w e = Zero
passed_by (Some Next) d w e = Zero
passed_by (Some Branch) d w e = step_letter d w (exit d e).left
passed_by (Some Conditions) d w e = and_l (step_letter d w (exit d e).left) (node_bit w (step d (exit d e).left).condition (place d e))
passed_by (Some DeadEnd) d w e = Zero

abbrev pub passed : Database → Letters → ℕ → Letter
passed d w e = passed_by (step_kind (step d (exit d e).left).kind) d w e

-- the OR of all bits of a step's conditions
abbrev pub some_condition : Database → Letters → ℕ → Letter
some_condition d w s = joined or_l Zero (node_bit w (step d s).condition) (node d (step d s).condition).width

-- What a step passes to the next one: without a branch its letter; under conditions that AND NOT the OR of all bits; else nothing.
abbrev pub passed_on_by : Option StepKind → Database → Letters → ℕ → Letter
passed_on_by None d w s = Zero
passed_on_by (Some Next) d w s = step_letter d w s
passed_on_by (Some Branch) d w s = Zero
passed_on_by (Some Conditions) d w s = and_l (step_letter d w s) (not_l (some_condition d w s))
passed_on_by (Some DeadEnd) d w s = Zero

abbrev pub passed_on : Database → Letters → ℕ → Letter
passed_on d w s = passed_on_by (step_kind (step d s).kind) d w s

-- the OR of what is passed to a step along the first n exits
unfoldable pub over_exits : Database → Letters → ℕ → ℕ → Letter
over_exits d w s n = joined or_l Zero (λ i. cond ((exit d (i + 1)).entered == s) (passed d w (i + 1)) Zero) n

-- the OR of all that is passed to a step: along exits, and from the step before it
abbrev pub passed_to : Database → Letters → ℕ → Letter
passed_to d w s = or_l (over_exits d w s (length d.exits)) (cond (nat_lt 1 s) (passed_on d w (s - 1)) Zero)

-- The letters w of points and of the bits of nodes are those under the held letters h: each bit of an input or a register has its held
-- letter, and so has each step, which takes a clock; each bit of a node is what its sign makes of its operands; and each bit of a bus or
-- an output is the OR, over the targets naming it, of guard AND value.
pub record Settled (d : Database) (h w : Letters) : Type 0 where
  pub held : (p : ℕ) → p < held_bits d → w p ≡ h p
  pub steps : (s : ℕ) → IsRow d.steps s → step_letter d w s ≡ h (held_step d s)
  pub nodes : (n b : ℕ) → IsRow d.nodes n → b < (node d n).width → node_bit w n b ≡ node_letter d w n b
  pub driven : (y b : ℕ) → IsRow d.symbols y → 3 ≤ rank_of d y → b < width_of d y → w (point_of d y b) ≡ driven d w y b

-- The held letters u follow h: each register bit and each step has its next letter under the letters w, and all else is as it was.
pub record Follows (d : Database) (w h u : Letters) : Type 0 where
  pub registers : (y b : ℕ) → IsRow d.symbols y → rank_of d y ≡ 2 → b < width_of d y → u (point_of d y b) ≡ next_bit d w y b
  pub steps : (s : ℕ) → IsRow d.steps s → u (held_step d s) ≡ passed_to d w s
  pub inputs : (p : ℕ) → p < input_bits d → u p ≡ h p
  pub others : (p : ℕ) → held_count d ≤ p → u p ≡ h p

-- a step's letter after a reset: 1 if CONTROLRESET names it
abbrev pub reset_letter : Database → ℕ → Letter
reset_letter d s = bool_letter ((step d s).reset == 1)

-- The held letters after a clock.
pub record Clocked (d : Database) (h u : Letters) : Type 0 where
  pub letters : Letters
  pub settled : Settled d h letters
  pub follows : Follows d letters h u

-- The held letters after a reset: the steps of CONTROLRESET are 1, other steps 0, and the rest is kept.
pub record WasReset (d : Database) (h u : Letters) : Type 0 where
  pub steps : (s : ℕ) → IsRow d.steps s → u (held_step d s) ≡ reset_letter d s
  pub kept : (p : ℕ) → p < held_bits d → u p ≡ h p
  pub others : (p : ℕ) → held_count d ≤ p → u p ≡ h p

-- The held letters after an opening with these letters of the registers, one a bit: the inputs are 0, and there is a reset.
pub record Opened (d : Database) (starts : List Letter) (h u : Letters) : Type 0 where
  pub inputs : (p : ℕ) → p < input_bits d → u p ≡ Zero
  pub registers : (i : ℕ) → i < register_bits d → u (input_bits d + i) ≡ get_or starts i Unknown
  pub steps : (s : ℕ) → IsRow d.steps s → u (held_step d s) ≡ reset_letter d s
  pub others : (p : ℕ) → held_count d ≤ p → u p ≡ h p

-- The held letters after an input bit was driven.
pub record WasDriven (n : ℕ) (x : Letter) (h u : Letters) : Type 0 where
  pub driven : u n ≡ x
  pub others : (p : ℕ) → ¬ (p ≡ n) → u p ≡ h p

-- The letter of a point.
pub record Looked (d : Database) (h : Letters) (p : ℕ) (x : Letter) : Type 0 where
  pub letters : Letters
  pub settled : Settled d h letters
  pub letter : x ≡ letters p
