-- The laws of runs on texts. Assumes nothing.
use Rattle.std.specs.Prelude.{◌≡◌, ℕ, Bool, List, ◌∷◌}
use Rattle.level.specs.declared.letter.Letter.{Letter}
use Rattle.level.specs.Order.{MayBecome}
use Rattle.database.specs.Rows.{Database}
use Rattle.text.specs.Promise.{Says}
use Rattle.control.specs.Letters.{Letters}
use Rattle.control.specs.Runs.{LaneCall, open_with, LaneAnswer, done, Run, Each, CallBy, AnswerBy}

-- a run on the database that a text says
abbrev pub TextRun : List ℕ → Bool → Letters → List LaneCall → List LaneAnswer → Letters → Type 0
TextRun text short h calls answers u = (database : Database) × Says text database × Run database short h calls answers u

-- On a text that says a database, every list of calls has a run; and all runs of the same calls from the same held letters have the
-- same answers, and leave the same letters.
abbrev pub TextRunsOnce : Type 0
TextRunsOnce =
    (text : List ℕ) (short : Bool) (h : Letters) (calls : List LaneCall) →
    ((database : Database) → Says text database → (answers : List LaneAnswer) × (u : Letters) × TextRun text short h calls answers u)
    × ((xs ys : List LaneAnswer) (u v : Letters) → TextRun text short h calls xs u → TextRun text short h calls ys v → (xs ≡ ys) × ((p : ℕ) → u p ≡ v p))

-- The calls of a run on a text begin with an opening that is done. Where each X of it and of the drives is made 0 or 1, or left, no answer
-- that was 0 or 1 changes, and the same calls are refused for the same reasons, whatever is held before.
abbrev pub TextKnownStays : Type 0
TextKnownStays =
    (text : List ℕ) (short : Bool) (h g : Letters) (starts : List Letter) (calls others : List LaneCall) (xs ys : List LaneAnswer) (u v : Letters) →
    Each (CallBy MayBecome) (open_with starts ∷ calls) others →
    TextRun text short h (open_with starts ∷ calls) (done ∷ xs) u → TextRun text short g others ys v → Each (AnswerBy MayBecome) (done ∷ xs) ys
