-- Calls on tables of levels, lane by lane. Assumes nothing.
use Rattle.std.specs.Prelude.{◌≡◌, ◌⊎◌, ℕ, ◌<◌, List, length, get_or}
use Rattle.level.specs.declared.letter.Letter.{Letter}
use Rattle.level.specs.declared.Level.{Ghosts}
use Rattle.least.specs.Each.{IsRow}
use Rattle.database.specs.Rows.{Database, node}
use Rattle.control.specs.declared.calls.Call.{Call}
use Rattle.control.specs.declared.calls.Call.TheVariants.{Open, Drive, Clock, Reset, Look}
use Rattle.control.specs.declared.calls.Answer.{Answer}
use Rattle.control.specs.declared.calls.Answer.TheVariants.{Done, Level, Refused}
use Rattle.control.specs.Points.{point_count, held_count, bit_row}
use Rattle.control.specs.Letters.{Letters, column, seen}
use Rattle.control.specs.Runs.{LaneCall, open_with, drive, clock, reset, look, LaneAnswer, done, told, refused}

-- a call, and an answer, in a lane
abbrev pub call_in : {X : Type 0} → (X → ℕ → Letter) → ℕ → Call X → LaneCall
call_in letters k (Open starts) = open_with (column letters k starts.now)
call_in letters k (Drive n x) = drive n (letters x k)
call_in letters k Clock = clock
call_in letters k Reset = reset
call_in letters k (Look p) = look p

abbrev pub answer_in : {X : Type 0} → (X → ℕ → Letter) → ℕ → Answer X → LaneAnswer
answer_in letters k Done = done
answer_in letters k (Level x) = told (letters x k)
answer_in letters k (Refused r) = refused r

-- the letters of a table in a lane, row by row
abbrev pub lane : {X : Type 0} → Ghosts X → List X → ℕ → Letters
lane G xs k = seen G.letters k xs

-- in each lane
abbrev pub InEachLane : {X : Type 0} → Ghosts X → (ℕ → Type 0) → Type 0
InEachLane G P = (k : ℕ) → k < G.LANES → P k

-- a level that has in each lane the letter that f says
abbrev pub LevelIs : {X : Type 0} → Ghosts X → X → (ℕ → Letter) → Type 0
LevelIs G x f = InEachLane G (λ k. G.letters x k ≡ f k)

-- a row of the working table that is in use: of a point, or of a bit of a node
abbrev pub WorkRow : Database → ℕ → Type 0
WorkRow d r = (r < point_count d) ⊎ ((n : ℕ) × (b : ℕ) × IsRow d.nodes n × (b < (node d n).width) × (r ≡ bit_row n b))

-- a row of the held table that is in use
abbrev pub HeldRow : Database → ℕ → Type 0
HeldRow d r = r < held_count d

-- Only rows in use differ.
pub record OnlyIn {X : Type 0} (InUse : ℕ → Type 0) (old new : List X) : Type 0 where
  pub length : length new ≡ length old
  pub rows : (r : ℕ) (x : X) → ¬ (InUse r) → get_or new r x ≡ get_or old r x
