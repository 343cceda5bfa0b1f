-- The laws of runs, of the databases that texts say. Assumes nothing.
use Rattle.std.proofs.Common.{◌≡◌, ℕ, Bool, true, false, not, ◌==◌, List, ◌∷◌, length, sym, subst, refl, arith}
use Rattle.std.proofs.lemmas.Bool.Decides.{nat_tests}
use Rattle.database.specs.Rows.{Database}
use Rattle.database.specs.Soundness.{Sound}
use Rattle.soundness.proofs.Sound.{accepted_are_sound}
use Rattle.text.specs.Promise.{Says}
use Rattle.text.proofs.Laws.{one_database}
use Rattle.control.specs.Points.{register_bits}
use Rattle.control.specs.Letters.{Letters}
use Rattle.control.specs.Runs.{LaneCall, open_with, LaneAnswer, done, Run, CalledBy, refusal_by}
use Rattle.settling.proofs.UsableDatabases.{sound_is_usable}
use Rattle.settling.proofs.RunsFacts.{point_facts}
use Rattle.settling.proofs.RunsLaws.{one_run, known_stays_opened}
use Rattle.playing.specs.Laws.{TextRun, TextRunsOnce, TextKnownStays}

said_is_sound : (text : List ℕ) (d : Database) → Says text d → Sound (length text) d
said_is_sound text d s = subst (Sound (length text)) (sym s.rows) (accepted_are_sound text s.draft s.drafted s.faultless)

-- a run on a text is one on each database that it says
run_on : (text : List ℕ) (d : Database) (short : Bool) (h u : Letters) (calls : List LaneCall) (answers : List LaneAnswer) → Says text d → TextRun text short h calls answers u → Run d short h calls answers u
run_on text d short h u calls answers s (e, t, run) = subst (λ x. Run x short h calls answers u) (one_database text e d t s) run

pub text_runs_once : TextRunsOnce
text_runs_once text short h calls = (
  λ d s.
      let some = (one_run sound_is_usable point_facts (length text) d short h calls (said_is_sound text d s)).0 in
      (some.0, some.1, (d, s, some.2)),
  λ xs ys u v (d, s, run) other.
      (one_run sound_is_usable point_facts (length text) d short h calls (said_is_sound text d s)).1 xs ys u v run (run_on text d short h v calls ys s other),
)

-- a call that is done is not refused: no table is short, and it is not amiss
done_long : (d : Database) (short amiss : Bool) (h u : Letters) (c : LaneCall) → CalledBy (refusal_by short amiss) d h c done u → short ≡ false
done_long d false amiss h u c called = refl
done_long d true amiss h u c called = let e = called.0 in absurd cc

done_fits : (d : Database) (short amiss : Bool) (h u : Letters) (c : LaneCall) → CalledBy (refusal_by short amiss) d h c done u → amiss ≡ false
done_fits d true amiss h u c called = let e = called.0 in absurd cc
done_fits d false false h u c called = refl
done_fits d false true h u c called = let e = called.0 in absurd cc

-- so an opening that is done has a letter for each register bit
same_number : (m n : ℕ) → not (m == n) ≡ false → m ≡ n
same_number m n e = grind (arith, nat_tests)

pub text_known_stays : TextKnownStays
text_known_stays text short h g starts calls others xs ys u v by (d, s, run) other =
    let long : short ≡ false = done_long d short (not (length starts == register_bits d)) h run.0 (open_with starts) run.1 in
    let fits : length starts ≡ register_bits d = same_number (length starts) (register_bits d) (done_fits d short (not (length starts == register_bits d)) h run.0 (open_with starts) run.1) in
    known_stays_opened sound_is_usable point_facts (length text) d h g starts calls others (done ∷ xs) ys u v (said_is_sound text d s) fits by
    (subst (λ b. Run d b h (open_with starts ∷ calls) (done ∷ xs) u) long run)
    (subst (λ b. Run d b g others ys v) long (run_on text d short g v others ys s other))
