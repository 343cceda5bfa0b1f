-- That runs which are computed are runs. Assumes nothing.
use Rattle.std.proofs.Common.{◌≡◌, ℕ, zero, suc, ◌+◌, ◌-◌, ◌<◌, ◌≤◌, Bool, true, false, ◌&&◌, cond, nat_le, ◌==◌, List, [], ◌∷◌, length, get_or, Option, Some, None, ⊎_elim, refl, sym, ap, subst, ◌∙◌, true≢false, arith}
use Rattle.std.proofs.lemmas.Bool.{cases_lt, leb-true, eqb-true, le-leb, eq-eqb, ne_eqb}
use Rattle.std.proofs.Math.ListN.{get_or-eq_default}
use Rattle.fault.specs.declared.Refusal.{Refusal}
use Rattle.fault.specs.declared.Layer.{Layer}
use Rattle.fault.specs.declared.Layer.TheVariants.{Text, Build, Store, Bench}
use Rattle.level.specs.declared.letter.Letter.{Letter}
use Rattle.level.specs.declared.letter.Letter.TheVariants.{Zero, One, Unknown}
use Rattle.level.specs.Faults.{bench_refusal}
use Rattle.least.specs.Each.{IsRow}
use Rattle.database.specs.Rows.{Database, node}
use Rattle.control.specs.Points.{rank_of, width_of, input_bits, held_bits, register_bits, held_step, held_count}
use Rattle.control.specs.Letters.{Letters, node_bit, node_letter}
use Rattle.control.specs.Rules.{step_letter, driven, Settled, passed_to, Follows, reset_letter, WasReset, Opened, WasDriven}
use Rattle.control.specs.Runs.{LaneCall, open_with, drive, clock, reset, look, LaneAnswer, done, told, refused, is_amiss, refusal_by, Done, CalledBy, Run}
use Rattle.worked_runs.proofs.Playing.{same, each_below, each_row, held, Table, letters, node_right, driven_right, settled_by, tested, fresh, few, reset_right, opened, opened_by, was_driven, driven_by, register_right, follows_by, followed, was_reset, reset_by, leaves, clocks, looks, makes, is_bench, tells_amiss, refuses, turn, plays}

both : (a b : Bool) → (a && b) ≡ true → (a ≡ true) × (b ≡ true)
both true b e = (refl, e)
both false b e = absurd (true≢false (sym e))

are_same : (a b : Letter) → same a b ≡ true → a ≡ b
are_same Zero Zero e = refl
are_same Zero One e = absurd (true≢false (sym e))
are_same Zero Unknown e = absurd (true≢false (sym e))
are_same One Zero e = absurd (true≢false (sym e))
are_same One One e = refl
are_same One Unknown e = absurd (true≢false (sym e))
are_same Unknown Zero e = absurd (true≢false (sym e))
are_same Unknown One e = absurd (true≢false (sym e))
are_same Unknown Unknown e = refl

below : (n : ℕ) (f : ℕ → Bool) → each_below n f ≡ true → (i : ℕ) → i < n → f i ≡ true
below zero f e i h = absurd (omega arith)
below (suc n) f e i h =
    let (before, last) = both (each_below n f) (f n) e in
    ⊎_elim (λ l. below n f before i l) (λ l. let at : i ≡ n = omega arith in ap f at ∙ last) (cases_lt i n)

row : (n : ℕ) (f : ℕ → Bool) → each_row n f ≡ true → (i : ℕ) → (1 ≤ i) × (i ≤ n) → f i ≡ true
row n f e i h =
    let (first, last) = h in
    let it : f (i - 1 + 1) ≡ true = below n (λ k. f (k + 1)) e (i - 1) (omega arith) in
    let at : i ≡ i - 1 + 1 = omega arith in
    ap f at ∙ it

-- letters settled under held letters, if there are any
abbrev Fresh : Database → List Letter → Option Table → Type 0
Fresh d hs None = Unit {0}
Fresh d hs (Some t) = Settled d (held hs) (letters t)

settled : (d : Database) (h w : Letters) → settled_by d h w ≡ true → Settled d h w
settled d h w e =
    let (first, second) = both _ _ e in
    let (held, steps) = both _ _ first in
    let (nodes, driven) = both _ _ second in
    record {
      held = λ p low. are_same _ _ (below (held_bits d) (λ p. same (w p) (h p)) held p low);
      steps = λ s at. are_same _ _ (row (length d.steps) (λ s. same (step_letter d w s) (h (held_step d s))) steps s at);
      nodes = λ n b at low. are_same _ _ (below (node d n).width (λ b. same (node_bit w n b) (node_letter d w n b)) (row (length d.nodes) (node_right d w) nodes n at) b low);
      driven = λ y b at high low.
          let it : driven_right d w (nat_le 3 (rank_of d y)) y ≡ true = row (length d.symbols) (λ y. driven_right d w (nat_le 3 (rank_of d y)) y) driven y at in
          are_same _ _ (below (width_of d y) _ (subst (λ (t : Bool). driven_right d w t y ≡ true) (le-leb 3 (rank_of d y) high) it) b low);
    }

tested_settled : (d : Database) (hs : List Letter) (t : Table) (b : Bool) → settled_by d (held hs) (letters t) ≡ b → Fresh d hs (tested b t)
tested_settled d hs t true e = settled d (held hs) (letters t) e
tested_settled d hs t false e = tt

fresh_settled : (d : Database) (hs : List Letter) (o : Option Table) → Fresh d hs o → Fresh d hs (fresh d hs o)
fresh_settled d hs None h = tested_settled d hs _ _ refl
fresh_settled d hs (Some t) h = h

-- letters beyond those that are held
beyond : (d : Database) (hs us : List Letter) → few d hs ≡ true → few d us ≡ true → (p : ℕ) → held_count d ≤ p → held us p ≡ held hs p
beyond d hs us few_old few_new p high =
    let one = leb-true (length hs) (held_count d) few_old in
    let two = leb-true (length us) (held_count d) few_new in
    get_or-eq_default us Unknown (omega arith) ∙ sym (get_or-eq_default hs Unknown (omega arith))

steps_reset : (d : Database) (u : Letters) → reset_right d u ≡ true → (s : ℕ) → IsRow d.steps s → u (held_step d s) ≡ reset_letter d s
steps_reset d u e s at = are_same _ _ (row (length d.steps) (λ s. same (u (held_step d s)) (reset_letter d s)) e s at)

module _ (d : Database) (hs us : List Letter) (few_old : few d hs ≡ true) (few_new : few d us ≡ true) where
  is_opened : (starts : List Letter) → opened_by d starts (held us) ≡ true → Opened d starts (held hs) (held us)
  is_opened starts e =
      let (inputs, more) = both _ _ e in
      let (registers, steps) = both _ _ more in
      record {
        inputs = λ p low. are_same _ _ (below (input_bits d) (λ p. same (held us p) Zero) inputs p low);
        registers = λ i low. are_same _ _ (below (register_bits d) (λ i. same (held us (input_bits d + i)) (get_or starts i Unknown)) registers i low);
        steps = steps_reset d (held us) steps;
        others = beyond d hs us few_old few_new;
      }

  is_driven : (n : ℕ) (x : Letter) → driven_by d n x (held hs) (held us) ≡ true → WasDriven n x (held hs) (held us)
  is_driven n x e =
      let (one, others) = both _ _ e in
      record {
        driven = are_same _ _ one;
        others = λ p other.
            ⊎_elim
            (λ low.
            let it : cond (p == n) true (same (held us p) (held hs p)) ≡ true = below (held_count d) (λ p. cond (p == n) true (same (held us p) (held hs p))) others p low in
            are_same _ _ (subst (λ (t : Bool). cond t true (same (held us p) (held hs p)) ≡ true) (ne_eqb p n other) it))
            (beyond d hs us few_old few_new p)
            (cases_lt p (held_count d));
      }

  is_reset : reset_by d (held hs) (held us) ≡ true → WasReset d (held hs) (held us)
  is_reset e =
      let (steps, kept) = both _ _ e in
      record {
        steps = steps_reset d (held us) steps;
        kept = λ p low. are_same _ _ (below (held_bits d) (λ p. same (held us p) (held hs p)) kept p low);
        others = beyond d hs us few_old few_new;
      }

  is_followed : (w : Letters) → follows_by d w (held hs) (held us) ≡ true → Follows d w (held hs) (held us)
  is_followed w e =
      let (registers, more) = both _ _ e in
      let (steps, inputs) = both _ _ more in
      record {
        registers = λ y b at memory low.
            let it : register_right d w (held us) (rank_of d y == 2) y ≡ true = row (length d.symbols) (λ y. register_right d w (held us) (rank_of d y == 2) y) registers y at in
            are_same _ _ (below (width_of d y) _ (subst (λ (t : Bool). register_right d w (held us) t y ≡ true) (eq-eqb (rank_of d y) 2 memory) it) b low);
        steps = λ s at. are_same _ _ (row (length d.steps) (λ s. same (held us (held_step d s)) (passed_to d w s)) steps s at);
        inputs = λ p low. are_same _ _ (below (input_bits d) (λ p. same (held us p) (held hs p)) inputs p low);
        others = beyond d hs us few_old few_new;
      }

is_bench_layer : (l : Layer) → is_bench l ≡ true → l ≡ Bench
is_bench_layer Text e = absurd (true≢false (sym e))
is_bench_layer Build e = absurd (true≢false (sym e))
is_bench_layer Store e = absurd (true≢false (sym e))
is_bench_layer Bench e = refl

refusal_is : (number place : ℕ) (layer : Layer) → number ≡ 25 → place ≡ 0 → layer ≡ Bench → record { number = number; place = place; layer = layer } ≡ bench_refusal 25
refusal_is number place layer one two three = cc

tells : (r : Refusal) → tells_amiss r ≡ true → r ≡ bench_refusal 25
tells r e =
    let (numbers, layer) = both _ _ e in
    let (number, place) = both _ _ numbers in
    refusal_is r.number r.place r.layer (eqb-true r.number 25 number) (eqb-true r.place 0 place) (is_bench_layer r.layer layer)

-- A run goes on from there.
abbrev GoesOn : Database → List LaneCall → List LaneAnswer → Type 0
GoesOn d cs answers =
    (hs : List Letter) (o : Option Table) → few d hs ≡ true → Fresh d hs o → plays d cs answers hs o ≡ true → (u : Letters) × Run d false (held hs) cs answers u

-- a call is made, and a run goes on
abbrev Turns : Database → List Letter → LaneCall → List LaneCall → LaneAnswer → List LaneAnswer → Option Refusal → Type 0
Turns d hs c cs a answers r = (u : Letters) × ((v : Letters) × CalledBy r d (held hs) c a v × Run d false v cs answers u)

module _ (d : Database) (cs : List LaneCall) (answers : List LaneAnswer) (on : GoesOn d cs answers) where
  left : (hs us : List Letter) (c : LaneCall) (a : LaneAnswer) (right : Bool) → few d hs ≡ true → leaves d (plays d cs answers) us right ≡ true → (right ≡ true → few d us ≡ true → Done d (held hs) c a (held us)) → Turns d hs c cs a answers None
  left hs us c a right few_old e h =
      let (made, more) = both _ _ e in
      let (is, few_new) = both _ _ made in
      let (u, run) = on us None few_new tt more in
      (u, (held us, h is few_new, run))

  clocked : (hs : List Letter) (o : Option Table) → few d hs ≡ true → Fresh d hs o → clocks d (plays d cs answers) hs o ≡ true → Turns d hs clock cs done answers None
  clocked hs None few_old h e = absurd (true≢false (sym e))
  clocked hs (Some t) few_old h e =
      left hs (followed d (held hs) (letters t)) clock done _ few_old e (λ is few_new. (refl, record { letters = letters t; settled = h; follows = is_followed d hs _ few_old few_new (letters t) is }))

  looked : (hs : List Letter) (o : Option Table) (p : ℕ) (x : Letter) → few d hs ≡ true → Fresh d hs o → looks p x (plays d cs answers) hs o ≡ true → Turns d hs (look p) cs (told x) answers None
  looked hs None p x few_old h e = absurd (true≢false (sym e))
  looked hs (Some t) p x few_old h e =
      let (letter, more) = both _ _ e in
      let (u, run) = on hs (Some t) few_old h more in
      (u, (held hs, (x, refl, record { letters = letters t; settled = h; letter = are_same _ _ letter }, λ p. refl), run))

  made : (hs : List Letter) (o : Option Table) (c : LaneCall) (a : LaneAnswer) → few d hs ≡ true → Fresh d hs o → makes d c a (plays d cs answers) hs o ≡ true → Turns d hs c cs a answers None
  made hs o (open_with starts) done few_old h e = left hs (opened d starts) (open_with starts) done _ few_old e (λ is few_new. (refl, is_opened d hs _ few_old few_new starts is))
  made hs o (open_with starts) (told x) few_old h e = absurd (true≢false (sym e))
  made hs o (open_with starts) (refused r) few_old h e = absurd (true≢false (sym e))
  made hs o (drive n x) done few_old h e = left hs (was_driven d n x (held hs)) (drive n x) done _ few_old e (λ is few_new. (refl, is_driven d hs _ few_old few_new n x is))
  made hs o (drive n x) (told y) few_old h e = absurd (true≢false (sym e))
  made hs o (drive n x) (refused r) few_old h e = absurd (true≢false (sym e))
  made hs o clock done few_old h e = clocked hs (fresh d hs o) few_old (fresh_settled d hs o h) e
  made hs o clock (told x) few_old h e = absurd (true≢false (sym e))
  made hs o clock (refused r) few_old h e = absurd (true≢false (sym e))
  made hs o reset done few_old h e = left hs (was_reset d (held hs)) reset done _ few_old e (λ is few_new. (refl, is_reset d hs _ few_old few_new is))
  made hs o reset (told x) few_old h e = absurd (true≢false (sym e))
  made hs o reset (refused r) few_old h e = absurd (true≢false (sym e))
  made hs o (look p) done few_old h e = absurd (true≢false (sym e))
  made hs o (look p) (told x) few_old h e = looked hs (fresh d hs o) p x few_old (fresh_settled d hs o h) e
  made hs o (look p) (refused r) few_old h e = absurd (true≢false (sym e))

  told_amiss : (hs : List Letter) (o : Option Table) (c : LaneCall) (a : LaneAnswer) → few d hs ≡ true → Fresh d hs o → refuses a (plays d cs answers) hs o ≡ true → Turns d hs c cs a answers (Some (bench_refusal 25))
  told_amiss hs o c done few_old h e = absurd (true≢false (sym e))
  told_amiss hs o c (told x) few_old h e = absurd (true≢false (sym e))
  told_amiss hs o c (refused r) few_old h e =
      let (amiss, more) = both _ _ e in
      let (u, run) = on hs o few_old h more in
      (u, (held hs, (ap refused (tells r amiss), λ p. refl), run))

  turned : (amiss : Bool) (hs : List Letter) (o : Option Table) (c : LaneCall) (a : LaneAnswer) → few d hs ≡ true → Fresh d hs o → turn amiss d c a (plays d cs answers) hs o ≡ true → Turns d hs c cs a answers (refusal_by false amiss)
  turned true hs o c a few_old h e = told_amiss hs o c a few_old h e
  turned false hs o c a few_old h e = made hs o c a few_old h e

goes_on : (d : Database) (calls : List LaneCall) (answers : List LaneAnswer) → GoesOn d calls answers
goes_on d [] [] hs o f h e = (held hs, λ p. refl)
goes_on d [] (a ∷ answers) hs o f h e = absurd (true≢false (sym e))
goes_on d (c ∷ cs) [] hs o f h e = absurd (true≢false (sym e))
goes_on d (c ∷ cs) (a ∷ answers) hs o f h e = turned d cs answers (goes_on d cs answers) (is_amiss d c) hs o c a f h e

-- calls that are played from nothing are a run
pub runs : (d : Database) (calls : List LaneCall) (answers : List LaneAnswer) → plays d calls answers [] None ≡ true → (u : Letters) × Run d false (λ p. Unknown) calls answers u
runs d calls answers e = goes_on d calls answers [] None (le-leb 0 (held_count d) (omega arith)) tt e
