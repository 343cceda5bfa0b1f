-- What is promised of the engine's calls. Assumes nothing.
use Rattle.std.specs.Prelude.{◌≡◌, ℕ, Bool, ◌||◌, nat_lt, List, [], ◌∷◌, map, length, Option, Some, None, Result, Ok, Err}
use Rattle.fault.specs.declared.Refusal.{Refusal}
use Rattle.level.specs.declared.Level.{Ghosts}
use Rattle.database.specs.Rows.{Database}
use Rattle.control.specs.declared.calls.Call.{Call}
use Rattle.control.specs.declared.calls.Call.TheVariants.{Open, Drive, Clock, Reset, Look}
use Rattle.control.specs.declared.calls.Answer.{Answer}
use Rattle.control.specs.declared.calls.Answer.TheVariants.{Done, Level, Refused}
use Rattle.control.specs.Points.{most_points, working_rows}
use Rattle.control.specs.Rules.{Settled}
use Rattle.control.specs.Runs.{LaneCall, LaneAnswer, done, told, refused, refusal_of, Called, Run}
use Rattle.control.specs.Levels.{lane, InEachLane, OnlyIn, HeldRow, WorkRow, call_in, answer_in}
use Rattle.engine.specs.declared.faults.EngineFault.{EngineFault}
use Rattle.engine.specs.Faults.{engine_told}

-- what both tables hold
pub record Held (X : Type 0) : Type 0 where
  pub held : List X
  pub work : List X

abbrev pub both : {X : Type 0} → List X → List X → Held X
both held work = record { held = held; work = work }

-- a table is shorter than its size
abbrev pub is_short : {X : Type 0} → Held X → Bool
is_short t = nat_lt (length t.held) most_points || nat_lt (length t.work) working_rows

-- why a call is refused, if it is
abbrev pub why : {A : Type 0} → Result A EngineFault → Option Refusal
why (Ok x) = None
why (Err e) = Some (engine_told e)

-- what a call answers in a lane: that it was done, or a level's letter there, or why it was refused
abbrev pub plain_answer : Result (Unit {0}) EngineFault → LaneAnswer
plain_answer (Ok x) = done
plain_answer (Err e) = refused (engine_told e)

abbrev pub level_answer : {X : Type 0} → Ghosts X → Result X EngineFault → ℕ → LaneAnswer
level_answer G (Ok x) k = told (G.letters x k)
level_answer G (Err e) k = refused (engine_told e)

-- In each lane, a call is answered as the rules say, and the held table has the letters that they leave.
abbrev pub Answers : {X : Type 0} → Ghosts X → Database → (ℕ → LaneCall) → (ℕ → LaneAnswer) → Held X → Held X → Type 0
Answers G d call answer old new = InEachLane G (λ k. Called d (is_short old) (lane G old.held k) (call k) (answer k) (lane G new.held k))

-- the working table has the letters that are settled by what is held; only its rows in use changed
pub record Filled {X : Type 0} (G : Ghosts X) (d : Database) (held old new : List X) : Type 0 where
  pub settled : InEachLane G (λ k. Settled d (lane G held k) (lane G new k))
  pub rows : OnlyIn (WorkRow d) old new

-- What a call that is not refused answers, and leaves in the tables: a clock and a look fill the working table, other calls leave it as
-- it is, and a look leaves the held table as it is.
abbrev pub DoneInTables : {X : Type 0} → Ghosts X → Database → Call X → Answer X → Held X → Held X → Type 0
DoneInTables G d (Open starts) answer old new = (answer ≡ Done) × (new.work ≡ old.work)
DoneInTables G d (Drive n x) answer old new = (answer ≡ Done) × (new.work ≡ old.work)
DoneInTables G d Clock answer old new = (answer ≡ Done) × Filled G d old.held old.work new.work
DoneInTables G d Reset answer old new = (answer ≡ Done) × (new.work ≡ old.work)
DoneInTables {X} G d (Look p) answer old new = ((x : X) × (answer ≡ Level x)) × Filled G d old.held old.work new.work × (new.held ≡ old.held)

-- the same, by why the call is refused, if it is: a refused one leaves both tables as they are
abbrev pub InTables : {X : Type 0} → Option Refusal → Ghosts X → Database → Call X → Answer X → Held X → Held X → Type 0
InTables None G d call answer old new = DoneInTables G d call answer old new
InTables (Some r) G d call answer old new = (answer ≡ Refused r) × (new ≡ old)

-- A call was made, and answered. No letter bears on why it is refused, and so the call in lane 0 tells it, even of levels without lanes.
pub record Made {X : Type 0} (G : Ghosts X) (d : Database) (call : Call X) (answer : Answer X) (old new : Held X) : Type 0 where
  pub answers : Answers G d (λ k. call_in G.letters k call) (λ k. answer_in G.letters k answer) old new
  pub tables : InTables (refusal_of d (is_short old) (call_in G.letters 0 call)) G d call answer old new
  pub held : OnlyIn (HeldRow d) old.held new.held

-- The calls were made one after the other, each on the tables that the one before left, and these are their answers.
abbrev pub MadeAll : {X : Type 0} → Ghosts X → Database → List (Call X) → List (Answer X) → Held X → Held X → Type 0
MadeAll G d [] [] old new = new ≡ old
MadeAll G d [] (a ∷ answers) old new = ⊥
MadeAll G d (c ∷ calls) [] old new = ⊥
MadeAll {X} G d (c ∷ calls) (a ∷ answers) old new = (between : Held X) × Made G d c a old between × MadeAll G d calls answers between new

-- In each lane the calls have a run with these answers.
abbrev pub Played : {X : Type 0} → Ghosts X → Database → List (Call X) → List (Answer X) → Held X → Held X → Type 0
Played G d calls answers old new =
    InEachLane G (λ k. Run d (is_short old) (lane G old.held k) (map (call_in G.letters k) calls) (map (answer_in G.letters k) answers) (lane G new.held k))
