-- Runs that go on call by call. Assumes nothing.
use Rattle.std.proofs.Common.{◌≡◌, ℕ, ◌+◌, ◌<◌, ◌≤◌, Bool, ◌||◌, nat_lt, List, [], ◌∷◌, ◌++◌, length, take, drop, map, get_or, refl, ap, ap₂, sym, subst, subst₂, ◌∙◌}
use Rattle.std.proofs.Math.Path.{fun_ext}
use Rattle.std.proofs.Math.Seq.{take-append_seam, drop-append_seam}
use Rattle.std.proofs.lemmas.List.{append-nil, append_assoc, map-append, map_more, take_more, take_all}
use Rattle.level.specs.declared.Level.{Ghosts}
use Rattle.database.specs.Rows.{Database}
use Rattle.control.specs.declared.calls.Call.{Call}
use Rattle.control.specs.declared.calls.Answer.{Answer}
use Rattle.control.specs.Points.{most_points, working_rows}
use Rattle.control.specs.Letters.{Letters}
use Rattle.control.specs.Runs.{LaneCall, LaneAnswer, Called, Run}
use Rattle.control.specs.Levels.{lane, OnlyIn, HeldRow, WorkRow, call_in, answer_in}
use Rattle.engine.specs.Promise.{Held, is_short, Made, MadeAll, Played}
use Rattle.engine.proofs.Makes.{made_more}

-- a run, and one call more
pub run_more : (d : Database) (short : Bool) (h u v : Letters) (calls : List LaneCall) (answers : List LaneAnswer) (c : LaneCall) (a : LaneAnswer) → Run d short h calls answers u → Called d short u c a v → Run d short h (calls ++ c ∷ []) (answers ++ a ∷ []) v
run_more d short h u v [] [] c a run called = (v, subst (λ w. Called d short w c a v) (fun_ext run) called, (λ p. refl))
run_more d short h u v [] (b ∷ answers) c a run called = absurd run
run_more d short h u v (e ∷ calls) [] c a run called = absurd run
run_more d short h u v (e ∷ calls) (b ∷ answers) c a run called = (run.0, run.1, run_more d short run.0 u v calls answers c a run.2 called)

-- rows out of use stay over two calls
pub only_none : {X : Type 0} (InUse : ℕ → Type 0) (xs : List X) → OnlyIn InUse xs xs
only_none InUse xs = record { length = refl; rows = λ r x unused. refl }

pub only_more : {X : Type 0} (InUse : ℕ → Type 0) (xs ys zs : List X) → OnlyIn InUse xs ys → OnlyIn InUse ys zs → OnlyIn InUse xs zs
only_more InUse xs ys zs p q = record {
  length = q.length ∙ p.length;
  rows = λ r x unused. q.rows r x unused ∙ p.rows r x unused;
}

module _ {X : Type 0} (G : Ghosts X) (d : Database) (calls : List (Call X)) (before : List (Answer X)) (old : Held X) where
  -- the first n calls were made, and answered in their order
  pub record Playing (n : ℕ) (answers : List (Answer X)) (new : Held X) : Type 0 where
    pub said : List (Answer X)
    pub answered : answers ≡ before ++ said
    pub made : MadeAll G d (take n calls) said old new
    pub run : Played G d (take n calls) said old new
    pub held : OnlyIn (HeldRow d) old.held new.held
    pub work : OnlyIn (WorkRow d) old.work new.work

  pub none_played : Playing 0 before old
  none_played = record {
    said = [];
    answered = sym (append-nil before);
    made = refl;
    run = λ k inside p. refl;
    held = only_none (HeldRow d) old.held;
    work = only_none (WorkRow d) old.work;
  }

  as_short : (new : Held X) → length new.held ≡ length old.held → length new.work ≡ length old.work → is_short new ≡ is_short old
  as_short new p q = ap₂ (λ m n. nat_lt m most_points || nat_lt n working_rows) p q

  -- one call more
  pub more_played : (n : ℕ) (answers : List (Answer X)) (new next : Held X) (c : Call X) (a : Answer X) → n < length calls → c ≡ get_or calls n c → Playing n answers new → Made G d c a new next → OnlyIn (WorkRow d) new.work next.work → Playing (n + 1) (answers ++ a ∷ []) next
  more_played n answers new next c a low is playing made work = record {
    said = playing.said ++ a ∷ [];
    answered = ap (λ xs. xs ++ a ∷ []) playing.answered ∙ append_assoc before playing.said (a ∷ []);
    made = subst (λ cs. MadeAll G d cs (playing.said ++ a ∷ []) old next) (sym (take_more calls n c low ∙ ap (λ e. take n calls ++ e ∷ []) (sym is))) (made_more G d old new next (take n calls) playing.said c a playing.made made);
    run = λ k inside.
        let asked : map (call_in G.letters k) (take (n + 1) calls) ≡ map (call_in G.letters k) (take n calls) ++ call_in G.letters k c ∷ [] =
        map_more (call_in G.letters k) calls n c low ∙ ap (λ e. map (call_in G.letters k) (take n calls) ++ call_in G.letters k e ∷ []) (sym is)
        in
        let told : map (answer_in G.letters k) (playing.said ++ a ∷ []) ≡ map (answer_in G.letters k) playing.said ++ answer_in G.letters k a ∷ [] = map-append (answer_in G.letters k) playing.said (a ∷ []) in
        subst₂ (λ cs xs. Run d (is_short old) (lane G old.held k) cs xs (lane G next.held k)) (sym asked) (sym told)
        (run_more d (is_short old) (lane G old.held k) (lane G new.held k) (lane G next.held k) _ _ (call_in G.letters k c) (answer_in G.letters k a) (playing.run k inside)
        (subst (λ s. Called d s (lane G new.held k) (call_in G.letters k c) (answer_in G.letters k a) (lane G next.held k)) (as_short new playing.held.length playing.work.length) (made.answers k inside)));
    held = only_more (HeldRow d) old.held new.held next.held playing.held made.held;
    work = only_more (WorkRow d) old.work new.work next.work playing.work work;
  }

  -- all calls were made, and m answers were there before
  module _ (m n : ℕ) (answers : List (Answer X)) (new : Held X) (count : m ≡ length before) (all : length calls ≤ n) (playing : Playing n answers new) where
    pub all_before : take m answers ≡ before
    all_before = subst (λ i. take i answers ≡ before) (sym count) (ap (take (length before)) playing.answered ∙ take-append_seam before playing.said)

    added : drop m answers ≡ playing.said
    added = subst (λ i. drop i answers ≡ playing.said) (sym count) (ap (drop (length before)) playing.answered ∙ drop-append_seam before playing.said)

    pub all_made : MadeAll G d calls (drop m answers) old new
    all_made = subst₂ (λ cs xs. MadeAll G d cs xs old new) (take_all n calls all) (sym added) playing.made

    pub all_played : Played G d calls (drop m answers) old new
    all_played k inside =
        subst₂ (λ cs xs. Run d (is_short old) (lane G old.held k) (map (call_in G.letters k) cs) (map (answer_in G.letters k) xs) (lane G new.held k)) (take_all n calls all) (sym added) (playing.run k inside)
