-- What private functions promise: how calls are answered, and how registers and steps get their next letters. Assumes nothing.
use Rattle.std.specs.Prelude.{◌≡◌, ℕ, ◌+◌, ◌-◌, ◌<◌, ◌≤◌, cond, ◌&&◌, nat_lt, nat_le, ◌==◌, List, length, get_or, Result, Ok, Err}
use Rattle.level.specs.declared.letter.Letter.{Letter}
use Rattle.level.specs.declared.letter.Letter.TheVariants.{Zero}
use Rattle.level.specs.declared.Level.{Ghosts}
use Rattle.level.specs.Letters.{or_l}
use Rattle.least.specs.Each.{IsRow}
use Rattle.database.specs.Rows.{Database, exit}
use Rattle.control.specs.declared.calls.Answer.{Answer}
use Rattle.control.specs.declared.calls.Answer.TheVariants.{Done, Level, Refused}
use Rattle.control.specs.Points.{sum_up_to, rank_of, width_of, point_of, held_step}
use Rattle.control.specs.Letters.{Letters}
use Rattle.control.specs.Rules.{Follows, over_exits, passed_on}
use Rattle.control.specs.Levels.{lane, InEachLane}
use Rattle.engine.specs.declared.faults.EngineFault.{EngineFault}
use Rattle.engine.specs.Faults.{engine_told}

-- what a look answers, and what another call does
abbrev pub look_answer : {X : Type 0} → Result X EngineFault → Answer X
look_answer (Ok x) = Level x
look_answer (Err e) = Refused (engine_told e)

abbrev pub plain_call_answer : {X : Type 0} → Result (Unit {0}) EngineFault → Answer X
plain_call_answer (Ok x) = Done
plain_call_answer (Err e) = Refused (engine_told e)

-- the row r of a table has the letter that u gives it
abbrev pub Right : Letters → Letters → ℕ → Type 0
Right u xs r = xs r ≡ u r

-- every row that was right is right
abbrev pub Keeps : Letters → Letters → Letters → Type 0
Keeps u old new = (r : ℕ) → Right u old r → Right u new r

-- the first bits of a symbol are right
abbrev pub BitsRight : Database → ℕ → ℕ → Letters → Letters → Type 0
BitsRight d y bits u xs = (b : ℕ) → b < bits → Right u xs (point_of d y b)

-- the registers among the first n symbols are right
abbrev pub RegistersRight : Database → ℕ → Letters → Letters → Type 0
RegistersRight d n u xs = (y : ℕ) → 1 ≤ y → y ≤ n → rank_of d y ≡ 2 → BitsRight d y (width_of d y) u xs

-- the first n steps are right
abbrev pub StepsRight : Database → ℕ → Letters → Letters → Type 0
StepsRight d n u xs = (s : ℕ) → 1 ≤ s → s ≤ n → Right u xs (held_step d s)

-- In each lane, for all letters that follow what was held: right rows stay right, and so are those of which P speaks.
abbrev pub Loads : {X : Type 0} → Ghosts X → Database → List X → List X → List X → (Letters → Letters → Type 0) → Type 0
Loads G d work old new P = InEachLane G (λ k. (h u : Letters) → Follows d (lane G work k) h u → Keeps u (lane G old k) (lane G new k) × P u (lane G new k))

-- how many of the first n exits leave the step s
unfoldable pub exits_of : Database → ℕ → ℕ → ℕ
exits_of d s n = sum_up_to (λ i. cond ((exit d (i + 1)).left == s) 1 0) n

-- the exits of each step, among the first n, are counted in its row
abbrev pub ExitsCounted : Database → List ℕ → ℕ → Type 0
ExitsCounted d counts n = (s : ℕ) → IsRow d.steps s → get_or counts (s - 1) 0 ≡ exits_of d s n

-- what is passed to a step: along exits, and to the first n steps from those before them
unfoldable pub passed_first : Database → Letters → ℕ → ℕ → Letter
passed_first d w s n = or_l (over_exits d w s (length d.exits)) (cond (nat_lt 1 s && nat_le s n) (passed_on d w (s - 1)) Zero)

-- In each lane, the row of each step has the letter that f says.
abbrev pub StepsHave : {X : Type 0} → Ghosts X → Database → List X → List X → (Letters → ℕ → Letter) → Type 0
StepsHave G d work next f = InEachLane G (λ k. (s : ℕ) → IsRow d.steps s → lane G next k (s - 1) ≡ f (lane G work k) s)

-- In each lane, a level is added to the row of that step, and other rows stay.
abbrev pub Adds : {X : Type 0} → Ghosts X → List X → List X → ℕ → X → Type 0
Adds G old new step level = InEachLane G (λ k. (s : ℕ) → 1 ≤ s → lane G new k (s - 1) ≡ or_l (lane G old k (s - 1)) (cond (step == s) (G.letters level k) Zero))
