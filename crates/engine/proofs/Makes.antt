-- One call is made, and calls are made one after the other. Assumes nothing.
use Rattle.std.proofs.Common.{◌≡◌, ℕ, List, [], ◌∷◌, ◌++◌, Result, Ok, Err, IfOk, IfErr, refl, ap, sym, subst, ◌∙◌}
use Rattle.level.specs.declared.Level.{Ghosts}
use Rattle.database.specs.Rows.{Database}
use Rattle.control.specs.declared.calls.Call.{Call}
use Rattle.control.specs.declared.calls.Call.TheVariants.{Look}
use Rattle.control.specs.declared.calls.Answer.{Answer}
use Rattle.control.specs.declared.calls.Answer.TheVariants.{Done}
use Rattle.control.specs.Runs.{look, refusal_of}
use Rattle.control.specs.Levels.{OnlyIn, HeldRow, call_in}
use Rattle.engine.specs.declared.faults.EngineFault.{EngineFault}
use Rattle.engine.specs.Inner.{look_answer, plain_call_answer}
use Rattle.engine.specs.Promise.{Held, both, is_short, why, plain_answer, level_answer, Answers, Filled, DoneInTables, InTables, Made, MadeAll}

module _ {X : Type 0} (G : Ghosts X) (d : Database) where
  -- a look was made
  pub made_look : (p : ℕ) (result : Result X EngineFault) (held work new : List X) → why result ≡ refusal_of d (is_short (both held work)) (look p) → Answers G d (λ k. look p) (level_answer G result) (both held work) (both held new)
      → IfErr result (λ e. new ≡ work) → IfOk result (λ x. Filled G d held work new) → Made G d (Look p) (look_answer result) (both held work) (both held new)
  made_look p (Ok x) held work new by answers left filled = record {
    answers = answers;
    tables = subst (λ r. InTables r G d (Look p) (look_answer (Ok x)) (both held work) (both held new)) by ((x, refl), filled, refl);
    held = record { length = refl; rows = λ r y unused. refl };
  }
  made_look p (Err e) held work new by answers left filled = record {
    answers = answers;
    tables = subst (λ r. InTables r G d (Look p) (look_answer {X = X} (Err e)) (both held work) (both held new)) by (refl, ap (both held) left);
    held = record { length = refl; rows = λ r y unused. refl };
  }

  -- another call was made
  pub made_plain : (c : Call X) (result : Result (Unit {0}) EngineFault) (old new : Held X) → why result ≡ refusal_of d (is_short old) (call_in G.letters 0 c) → Answers G d (λ k. call_in G.letters k c) (λ k. plain_answer result) old new
      → IfErr result (λ e. new ≡ old) → IfOk result (λ x. DoneInTables G d c Done old new) → OnlyIn (HeldRow d) old.held new.held → Made G d c (plain_call_answer result) old new
  made_plain c (Ok x) old new by answers left filled only = record {
    answers = answers;
    tables = subst (λ r. InTables r G d c Done old new) by filled;
    held = only;
  }
  made_plain c (Err e) old new by answers left filled only = record {
    answers = answers;
    tables = subst (λ r. InTables r G d c (plain_call_answer (Err e)) old new) by (refl, left);
    held = only;
  }

  -- the same call, with what it left
  pub made_as : {c e : Call X} {r s : Result (Unit {0}) EngineFault} {a : Answer X} {held work h w : List X} (old : Held X) → c ≡ e → a ≡ plain_call_answer r → r ≡ s → held ≡ h → work ≡ w → Made G d e (plain_call_answer s) old (both h w) → Made G d c a old (both held work)
  made_as {c} {e} {r} {s} {a} {held} {work} {h} {w} old call answer result p q made =
      let all : ◌≡◌ {A = Call X × Answer X × List X × List X} (e, plain_call_answer s, h, w) (c, a, held, work) = λ i. (sym call i, sym (answer ∙ ap plain_call_answer result) i, sym p i, sym q i) in
      subst (λ t. Made G d t.0 t.1 old (both t.2 t.3)) all made

  -- one call more
  pub made_more : (old between new : Held X) (calls : List (Call X)) (answers : List (Answer X)) (c : Call X) (a : Answer X) → MadeAll G d calls answers old between → Made G d c a between new → MadeAll G d (calls ++ c ∷ []) (answers ++ a ∷ []) old new
  made_more old between new [] [] c a all made = (new, subst (λ t. Made G d c a t new) all made, refl)
  made_more old between new [] (b ∷ answers) c a all made = absurd all
  made_more old between new (e ∷ calls) [] c a all made = absurd all
  made_more old between new (e ∷ calls) (b ∷ answers) c a all made = (all.0, all.1, made_more all.0 between new calls answers c a all.2 made)

-- what holds where a call was refused, or not
module _ {A : Type 0} where
  pub if_err : {P Q : Type 0} (result : Result A EngineFault) → (P → Q) → IfErr result (λ e. P) → IfErr result (λ e. Q)
  if_err (Ok x) then p = p
  if_err (Err e) then p = then p

  pub if_ok : {Q : Type 0} (result : Result A EngineFault) → (A → Q) → IfOk result (λ x. Q)
  if_ok (Ok x) then = then x
  if_ok (Err e) then = tt

  pub ok_then : {P Q : Type 0} (result : Result A EngineFault) → (P → Q) → IfOk result (λ x. P) → IfOk result (λ x. Q)
  ok_then (Ok x) then p = then p
  ok_then (Err e) then p = p
