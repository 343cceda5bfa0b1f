-- The laws of the control-step rules. Assumes nothing.
use Rattle.std.specs.Prelude.{◌≡◌, ℕ, ◌<◌, ◌≤◌, Bool, false, List, ◌∷◌, length, get_or}
use Rattle.level.specs.declared.letter.Letter.{Letter}
use Rattle.level.specs.Order.{MayBecome}
use Rattle.least.specs.Each.{IsRow}
use Rattle.database.specs.Rows.{Database, node}
use Rattle.database.specs.Soundness.{Sound}
use Rattle.control.specs.Points.{bit_of, step_of, points, held_points, rank_of, width_of, point_of, step_point, register_bits, point_count, held_step, held_count, bit_row}
use Rattle.control.specs.Letters.{Letters}
use Rattle.control.specs.Rules.{Settled}
use Rattle.control.specs.Runs.{LaneCall, open_with, LaneAnswer, Run, Each, CallBy, AnswerBy}
use Rattle.control.specs.Usable.{Usable}

-- The points of bits and steps are their places in the list of points, and those of inputs, registers and steps also in the held list.
pub record PointLaws (d : Database) : Type 0 where
  pub count : length (points d) ≡ point_count d
  pub bits : (y b : ℕ) → IsRow d.symbols y → b < width_of d y → get_or (points d) (point_of d y b) (step_of 0) ≡ bit_of y b
  pub steps : (s : ℕ) → IsRow d.steps s → get_or (points d) (step_point d s) (step_of 0) ≡ step_of s
  pub held_count : length (held_points d) ≡ held_count d
  pub held_bits : (y b : ℕ) → IsRow d.symbols y → rank_of d y ≤ 2 → b < width_of d y → get_or (held_points d) (point_of d y b) (step_of 0) ≡ bit_of y b
  pub held_steps : (s : ℕ) → IsRow d.steps s → get_or (held_points d) (held_step d s) (step_of 0) ≡ step_of s

-- letters of the points and of the bits of the nodes that are related, one by one
pub record Agree (R : Letter → Letter → Type 0) (d : Database) (v w : Letters) : Type 0 where
  pub points : (p : ℕ) → p < point_count d → R (v p) (w p)
  pub nodes : (n b : ℕ) → IsRow d.nodes n → b < (node d n).width → R (v (bit_row n b)) (w (bit_row n b))

-- Whatever is held, the rules settle the letters of a sound database, and in one way only.
abbrev pub OneWay : Type 0
OneWay =
    (bytes : ℕ) (d : Database) (h : Letters) → Sound bytes d →
    ((w : Letters) × Settled d h w) × ((v w : Letters) → Settled d h v → Settled d h w → Agree (λ a b. a ≡ b) d v w)

-- Every list of calls has a run, and its answers and what is held at its end are determined.
abbrev pub OneRun : Type 0
OneRun =
    (bytes : ℕ) (d : Database) (short : Bool) (h : Letters) (calls : List LaneCall) → Sound bytes d →
    ((answers : List LaneAnswer) × (u : Letters) × Run d short h calls answers u)
    × ((xs ys : List LaneAnswer) (u v : Letters) → Run d short h calls xs u → Run d short h calls ys v → (xs ≡ ys) × ((p : ℕ) → u p ≡ v p))

-- Where each X of an opening, of a drive or of what is held at first is made 0 or 1, or left, no answer that was 0 or 1 changes, and the
-- same calls are refused for the same reasons.
abbrev pub KnownStays : Type 0
KnownStays =
    (bytes : ℕ) (d : Database) (short : Bool) (h g : Letters) (calls others : List LaneCall) (xs ys : List LaneAnswer) (u v : Letters) →
    Sound bytes d → ((p : ℕ) → p < held_count d → MayBecome (h p) (g p)) → Each (CallBy MayBecome) calls others →
    Run d short h calls xs u → Run d short g others ys v → Each (AnswerBy MayBecome) xs ys

-- The same of runs that begin with an opening that is not refused, whatever is held before it.
abbrev pub KnownStaysOpened : Type 0
KnownStaysOpened =
    (bytes : ℕ) (d : Database) (h g : Letters) (starts : List Letter) (calls others : List LaneCall) (xs ys : List LaneAnswer) (u v : Letters) →
    Sound bytes d → length starts ≡ register_bits d → Each (CallBy MayBecome) (open_with starts ∷ calls) others →
    Run d false h (open_with starts ∷ calls) xs u → Run d false g others ys v → Each (AnswerBy MayBecome) xs ys

-- What is said of a sound database as a whole holds for each of its rows.
abbrev pub SoundIsUsable : Type 0
SoundIsUsable = (bytes : ℕ) (d : Database) → Sound bytes d → Usable d

abbrev pub PointsInOrder : Type 0
PointsInOrder = (bytes : ℕ) (d : Database) → Sound bytes d → PointLaws d
