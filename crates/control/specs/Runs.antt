-- Runs: what a list of calls answers, and what it leaves, in one lane. Assumes nothing.
use Rattle.std.specs.Prelude.{◌≡◌, ℕ, Bool, false, cond, not, nat_lt, ◌==◌, List, [], ◌∷◌, length, Option, Some, None}
use Rattle.fault.specs.declared.Refusal.{Refusal}
use Rattle.level.specs.declared.letter.Letter.{Letter}
use Rattle.level.specs.Faults.{bench_refusal}
use Rattle.database.specs.Rows.{Database}
use Rattle.control.specs.Points.{input_bits, register_bits, point_count}
use Rattle.control.specs.Letters.{Letters}
use Rattle.control.specs.Rules.{Opened, WasDriven, Clocked, WasReset, Looked}

-- a call, as it is in one lane
pub data LaneCall : Type 0 where
  open_with : List Letter → LaneCall
  drive : ℕ → Letter → LaneCall
  clock : LaneCall
  reset : LaneCall
  look : ℕ → LaneCall

-- what a call answers in one lane: that it was done, or a letter, or why it is refused
pub data LaneAnswer : Type 0 where
  done : LaneAnswer
  told : Letter → LaneAnswer
  refused : Refusal → LaneAnswer

-- a call names an input or a point that there is not, or has not one letter for each register bit
abbrev pub is_amiss : Database → LaneCall → Bool
is_amiss d (open_with starts) = not (length starts == register_bits d)
is_amiss d (drive n x) = not (nat_lt n (input_bits d))
is_amiss d clock = false
is_amiss d reset = false
is_amiss d (look p) = not (nat_lt p (point_count d))

-- why a call is refused, by the lowest number of those that apply: 23 where a table is short, 25 where it is amiss
abbrev pub refusal_by : Bool → Bool → Option Refusal
refusal_by short amiss = cond short (Some (bench_refusal 23)) (cond amiss (Some (bench_refusal 25)) None)

abbrev pub refusal_of : Database → Bool → LaneCall → Option Refusal
refusal_of d short c = refusal_by short (is_amiss d c)

abbrev pub Unchanged : Letters → Letters → Type 0
Unchanged h u = (p : ℕ) → u p ≡ h p

-- what a call that is not refused answers, and leaves held, by the rules of control steps
abbrev pub Done : Database → Letters → LaneCall → LaneAnswer → Letters → Type 0
Done d h (open_with starts) a u = (a ≡ done) × Opened d starts h u
Done d h (drive n x) a u = (a ≡ done) × WasDriven n x h u
Done d h clock a u = (a ≡ done) × Clocked d h u
Done d h reset a u = (a ≡ done) × WasReset d h u
Done d h (look p) a u = (x : Letter) × (a ≡ told x) × Looked d h p x × Unchanged h u

-- what a call answers and leaves: a refused one changes nothing
abbrev pub CalledBy : Option Refusal → Database → Letters → LaneCall → LaneAnswer → Letters → Type 0
CalledBy None d h c a u = Done d h c a u
CalledBy (Some r) d h c a u = (a ≡ refused r) × Unchanged h u

abbrev pub Called : Database → Bool → Letters → LaneCall → LaneAnswer → Letters → Type 0
Called d short h c a u = CalledBy (refusal_of d short c) d h c a u

-- A run: from the held letters h, each call is made on what the one before left, and answered; at the end u is held.
abbrev pub Run : Database → Bool → Letters → List LaneCall → List LaneAnswer → Letters → Type 0
Run d short h [] [] u = Unchanged h u
Run d short h [] (a ∷ answers) u = ⊥
Run d short h (c ∷ cs) [] u = ⊥
Run d short h (c ∷ cs) (a ∷ answers) u = (v : Letters) × Called d short h c a v × Run d short v cs answers u

-- lists of one length, related place by place
abbrev pub Each : {A : Type 0} → (A → A → Type 0) → List A → List A → Type 0
Each R [] [] = Unit {0}
Each R [] (y ∷ ys) = ⊥
Each R (x ∷ xs) [] = ⊥
Each R (x ∷ xs) (y ∷ ys) = R x y × Each R xs ys

-- the same call, its letters related
abbrev pub CallBy : (Letter → Letter → Type 0) → LaneCall → LaneCall → Type 0
CallBy R (open_with starts) e = (others : List Letter) × (e ≡ open_with others) × Each R starts others
CallBy R (drive n x) e = (y : Letter) × (e ≡ drive n y) × R x y
CallBy R clock e = e ≡ clock
CallBy R reset e = e ≡ reset
CallBy R (look p) e = e ≡ look p

-- the same answer, its letter related
abbrev pub AnswerBy : (Letter → Letter → Type 0) → LaneAnswer → LaneAnswer → Type 0
AnswerBy R done b = b ≡ done
AnswerBy R (told x) b = (y : Letter) × (b ≡ told y) × R x y
AnswerBy R (refused r) b = b ≡ refused r
