-- There is a run of all calls; and related calls on related held letters are answered by related answers, and leave related letters held. Assumes nothing.
use Rattle.std.proofs.Common.{◌≡◌, ℕ, zero, suc, ◌≤◌, Bool, true, false, not, ◌==◌, nat_lt, List, [], ◌∷◌, length, get_or, Option, Some, None, refl, ap, sym, ◌∙◌, subst, subst₂, ap₂, ⊎_elim, arith}
use Rattle.std.proofs.lemmas.Bool.{cases_lt, eq-eqb, not-false, ltb-true}
use Rattle.fault.specs.declared.Refusal.{Refusal}
use Rattle.level.specs.declared.letter.Letter.{Letter}
use Rattle.level.specs.declared.letter.Letter.TheVariants.{Unknown}
use Rattle.level.specs.Order.{MayBecome}
use Rattle.level.proofs.Laws.{letter_laws_lem}
use Rattle.database.specs.Rows.{Database}
use Rattle.control.specs.Points.{input_bits, register_bits, point_count, held_count}
use Rattle.control.specs.Letters.{Letters}
use Rattle.control.specs.Runs.{LaneCall, open_with, drive, clock, reset, look, LaneAnswer, done, told, refused, is_amiss, refusal_by, refusal_of, Unchanged, Done, CalledBy, Run, Each, CallBy, AnswerBy}
use Rattle.control.specs.Usable.{Usable}
use Rattle.settling.proofs.Agree.{Respects, PointFacts}
use Rattle.settling.proofs.AgreeTurns.{HeldBy, settled_related}
use Rattle.settling.proofs.AgreeNext.{clocked_related, reset_related, opened_related, driven_held_related}
use Rattle.settling.proofs.Exists.{settled_some, clocked_some, reset_some, opened_some, driven_some, equal_respects}

-- every operation keeps the order of letters
pub becomes_respects : Respects MayBecome
becomes_respects = record {
  same = letter_laws_lem.becomes_refl;
  not_l = letter_laws_lem.not_keeps;
  and_l = letter_laws_lem.and_keeps;
  or_l = letter_laws_lem.or_keeps;
  xor_l = letter_laws_lem.xor_keeps;
}

each_length : {A : Type 0} (R : A → A → Type 0) (xs ys : List A) → Each R xs ys → length xs ≡ length ys
each_length R [] [] e = refl
each_length R [] (y ∷ ys) e = absurd e
each_length R (x ∷ xs) [] e = absurd e
each_length R (x ∷ xs) (y ∷ ys) e = ap suc (each_length R xs ys e.1)

each_at : {A : Type 0} (R : A → A → Type 0) (none : A) → R none none → (xs ys : List A) → Each R xs ys → (i : ℕ) → R (get_or xs i none) (get_or ys i none)
each_at R none same [] [] e i = same
each_at R none same [] (y ∷ ys) e i = absurd e
each_at R none same (x ∷ xs) [] e i = absurd e
each_at R none same (x ∷ xs) (y ∷ ys) e zero = e.0
each_at R none same (x ∷ xs) (y ∷ ys) e (suc i) = each_at R none same xs ys e.1 i

each_same : {A : Type 0} (R : A → A → Type 0) → ((x : A) → R x x) → (xs : List A) → Each R xs xs
each_same R same [] = tt
each_same R same (x ∷ xs) = (same x, each_same R same xs)

each_equal : {A : Type 0} (R : A → A → Type 0) → ((x y : A) → R x y → x ≡ y) → (xs ys : List A) → Each R xs ys → xs ≡ ys
each_equal R equal [] [] e = refl
each_equal R equal [] (y ∷ ys) e = absurd e
each_equal R equal (x ∷ xs) [] e = absurd e
each_equal R equal (x ∷ xs) (y ∷ ys) e = ap₂ (λ z zs. z ∷ zs) (equal x y e.0) (each_equal R equal xs ys e.1)

module _ (R : Letter → Letter → Type 0) (ops : Respects R) where
  call_same : (c : LaneCall) → CallBy R c c
  call_same (open_with starts) = (starts, refl, each_same R ops.same starts)
  call_same (drive n x) = (x, refl, ops.same x)
  call_same clock = refl
  call_same reset = refl
  call_same (look p) = refl

  calls_same : (calls : List LaneCall) → Each (CallBy R) calls calls
  calls_same = each_same (CallBy R) call_same

answer_equal : (a b : LaneAnswer) → AnswerBy (λ x y. x ≡ y) a b → a ≡ b
answer_equal done b e = sym e
answer_equal (told x) b e = ap told e.2 ∙ sym e.1
answer_equal (refused r) b e = sym e

-- a call that is not refused, and one that may be, is answered, and leaves something held
module _ (d : Database) (usable : Usable d) (facts : PointFacts d) where
  done_some : (h : Letters) (c : LaneCall) → (a : LaneAnswer) × (u : Letters) × Done d h c a u
  done_some h (open_with starts) = let (u, is) = opened_some d starts h facts.inputs_held in (done, u, (refl, is))
  done_some h (drive n x) = let (u, is) = driven_some n x h in (done, u, (refl, is))
  done_some h clock = let (u, is) = clocked_some d usable facts h in (done, u, (refl, is))
  done_some h reset = let (u, is) = reset_some d h in (done, u, (refl, is))
  done_some h (look p) =
      let (w, settled) = settled_some d usable facts h in
      (told (w p), h, (w p, refl, record { letters = w; settled = settled; letter = refl }, (λ k. refl)))

  called_some : (o : Option Refusal) (h : Letters) (c : LaneCall) → (a : LaneAnswer) × (u : Letters) × CalledBy o d h c a u
  called_some None h c = done_some h c
  called_some (Some r) h c = (refused r, h, (refl, (λ k. refl)))

  -- every list of calls has a run
  pub run_some : (short : Bool) (h : Letters) (calls : List LaneCall) → (answers : List LaneAnswer) × (u : Letters) × Run d short h calls answers u
  run_some short h [] = ([], h, (λ p. refl))
  run_some short h (c ∷ cs) =
      let (a, v, called) = called_some (refusal_of d short c) h c in
      let (answers, u, run) = run_some short v cs in
      (a ∷ answers, u, (v, called, run))

not_amiss : (short amiss : Bool) → refusal_by short amiss ≡ None → amiss ≡ false
not_amiss true amiss e = absurd (cc)
not_amiss false true e = absurd (cc)
not_amiss false false e = refl

module _ (R : Letter → Letter → Type 0) (ops : Respects R) (d : Database) where
  -- the same calls are refused for the same reasons
  refusal_same : (short : Bool) (c e : LaneCall) → CallBy R c e → refusal_of d short c ≡ refusal_of d short e
  refusal_same short c e by = ap (refusal_by short) (amiss_same c e by)
    where
      amiss_same : (c e : LaneCall) → CallBy R c e → is_amiss d c ≡ is_amiss d e
      amiss_same (open_with starts) e by = ap (λ n. not (n == register_bits d)) (each_length R starts by.0 by.2) ∙ ap (is_amiss d) (sym by.1)
      amiss_same (drive n x) e by = ap (is_amiss d) (sym by.1)
      amiss_same clock e by = ap (is_amiss d) (sym by)
      amiss_same reset e by = ap (is_amiss d) (sym by)
      amiss_same (look p) e by = ap (is_amiss d) (sym by)

  -- the held letters and the answers are related
  abbrev BothBy : LaneAnswer → LaneAnswer → Letters → Letters → Type 0
  BothBy a b u x = AnswerBy R a b × HeldBy R d u x

  both_done : (a b : LaneAnswer) (u x : Letters) → a ≡ done → b ≡ done → HeldBy R d u x → BothBy a b u x
  both_done a b u x e f held = (subst (λ k. AnswerBy R k b) (sym e) f, held)

  unchanged_related : (h g u x : Letters) → HeldBy R d h g → Unchanged h u → Unchanged g x → HeldBy R d u x
  unchanged_related h g u x held p q k low = subst₂ R (sym (p k)) (sym (q k)) (held k low)

  module _ (usable : Usable d) (facts : PointFacts d) where
    done_related : (c e : LaneCall) (h g u x : Letters) (a b : LaneAnswer) → is_amiss d c ≡ false → CallBy R c e → HeldBy R d h g → Done d h c a u → Done d g e b x → BothBy a b u x
    done_related (open_with starts) e h g u x a b right by held p q =
        let same = subst (λ k. Done d g k b x) by.1 q in
        both_done a b u x p.0 same.0 (opened_related R ops d starts by.0 h g u x (λ i low. each_at R Unknown (ops.same Unknown) starts by.0 by.2 i) p.1 same.1)
    done_related (drive n y) e h g u x a b right by held p q =
        let same = subst (λ k. Done d g k b x) by.1 q in
        both_done a b u x p.0 same.0 (driven_held_related R ops d n y by.0 h g u x by.2 held p.1 same.1)
    done_related clock e h g u x a b right by held p q =
        let same = subst (λ k. Done d g k b x) by q in
        both_done a b u x p.0 same.0 (clocked_related R ops d usable facts h g u x held p.1 same.1)
    done_related reset e h g u x a b right by held p q =
        let same = subst (λ k. Done d g k b x) by q in
        both_done a b u x p.0 same.0 (reset_related R ops d h g u x held p.1 same.1)
    done_related (look n) e h g u x a b right by held p q =
        let same = subst (λ k. Done d g k b x) by q in
        let low = ltb-true n (point_count d) (not-false (nat_lt n (point_count d)) right) in
        let agree = settled_related R ops d usable facts h g p.2.letters same.2.letters held p.2.settled same.2.settled in
        let answers = subst₂ R (sym p.2.letter) (sym same.2.letter) (agree.points n low) in
        (subst (λ k. AnswerBy R k b) (sym p.1) (same.0, same.1, answers), unchanged_related h g u x held p.3 same.3)

    called_related : (short : Bool) (o : Option Refusal) (c e : LaneCall) (h g u x : Letters) (a b : LaneAnswer) → refusal_of d short c ≡ o → CallBy R c e → HeldBy R d h g → CalledBy o d h c a u → CalledBy o d g e b x → BothBy a b u x
    called_related short None c e h g u x a b is by held p q = done_related c e h g u x a b (not_amiss short (is_amiss d c) is) by held p q
    called_related short (Some r) c e h g u x a b is by held p q = (subst (λ k. AnswerBy R k b) (sym p.0) q.0, unchanged_related h g u x held p.1 q.1)

    -- related calls on related held letters are answered by related answers, and leave related letters held
    pub runs_related : (short : Bool) (calls others : List LaneCall) (h g u v : Letters) (xs ys : List LaneAnswer) → HeldBy R d h g → Each (CallBy R) calls others → Run d short h calls xs u → Run d short g others ys v → Each (AnswerBy R) xs ys × HeldBy R d u v
    runs_related short [] [] h g u v [] [] held by p q = (tt, unchanged_related h g u v held p q)
    runs_related short [] [] h g u v [] (y ∷ ys) held by p q = absurd q
    runs_related short [] [] h g u v (x ∷ xs) ys held by p q = absurd p
    runs_related short [] (e ∷ es) h g u v xs ys held by p q = absurd by
    runs_related short (c ∷ cs) [] h g u v xs ys held by p q = absurd by
    runs_related short (c ∷ cs) (e ∷ es) h g u v [] ys held by p q = absurd p
    runs_related short (c ∷ cs) (e ∷ es) h g u v (x ∷ xs) [] held by p q = absurd q
    runs_related short (c ∷ cs) (e ∷ es) h g u v (x ∷ xs) (y ∷ ys) held by p q =
        let same = subst (λ o. CalledBy o d g e y q.0) (sym (refusal_same short c e by.0)) q.1 in
        let both = called_related short (refusal_of d short c) c e h g p.0 q.0 x y refl by.0 held p.1 same in
        let rest = runs_related short cs es p.0 q.0 u v xs ys both.1 by.1 p.2 q.2 in
        ((both.0, rest.0), rest.1)

    -- the same where the first call is an opening that is not refused, whatever is held before it
    pub opened_runs_related : (starts : List Letter) (calls others : List LaneCall) (h g u v : Letters) (xs ys : List LaneAnswer) → length starts ≡ register_bits d → Each (CallBy R) (open_with starts ∷ calls) others → Run d false h (open_with starts ∷ calls) xs u → Run d false g others ys v → Each (AnswerBy R) xs ys
    opened_runs_related starts calls [] h g u v xs ys fits by p q = absurd by
    opened_runs_related starts calls (e ∷ es) h g u v [] ys fits by p q = absurd p
    opened_runs_related starts calls (e ∷ es) h g u v (x ∷ xs) [] fits by p q = absurd q
    opened_runs_related starts calls (e ∷ es) h g u v (x ∷ xs) (y ∷ ys) fits by p q =
        let none : refusal_of d false (open_with starts) ≡ None = ap (λ t. refusal_by false (not t)) (eq-eqb (length starts) (register_bits d) fits) in
        let first = subst (λ o. CalledBy o d h (open_with starts) x p.0) none p.1 in
        let same = subst (λ o. CalledBy o d g e y q.0) (sym (refusal_same false (open_with starts) e by.0) ∙ none) q.1 in
        let second = subst (λ k. Done d g k y q.0) by.0.1 same in
        let both = both_done x y p.0 q.0 first.0 second.0 (opened_related R ops d starts by.0.0 h g p.0 q.0 (λ i low. each_at R Unknown (ops.same Unknown) starts by.0.0 by.0.2 i) first.1 second.1) in
        (both.0, (runs_related false calls es p.0 q.0 u v xs ys both.1 by.1 p.2 q.2).0)

-- the rows behind those that are held are left as they are
module _ (d : Database) (facts : PointFacts d) where
  abbrev Beyond : Letters → Letters → Type 0
  Beyond h u = (p : ℕ) → held_count d ≤ p → u p ≡ h p

  done_beyond : (c : LaneCall) (h u : Letters) (a : LaneAnswer) → is_amiss d c ≡ false → Done d h c a u → Beyond h u
  done_beyond (open_with starts) h u a right p k high = p.1.others k high
  done_beyond (drive n x) h u a right p k high =
      let input = ltb-true n (input_bits d) (not-false (nat_lt n (input_bits d)) right) in
      p.1.others k (λ is. let within = facts.inputs_held in omega arith)
  done_beyond clock h u a right p k high = p.1.follows.others k high
  done_beyond reset h u a right p k high = p.1.others k high
  done_beyond (look n) h u a right p k high = p.3 k

  called_beyond : (short : Bool) (o : Option Refusal) (c : LaneCall) (h u : Letters) (a : LaneAnswer) → refusal_of d short c ≡ o → CalledBy o d h c a u → Beyond h u
  called_beyond short None c h u a is p k high = done_beyond c h u a (not_amiss short (is_amiss d c) is) p k high
  called_beyond short (Some r) c h u a is p k high = p.1 k

  run_beyond : (short : Bool) (calls : List LaneCall) (h u : Letters) (xs : List LaneAnswer) → Run d short h calls xs u → Beyond h u
  run_beyond short [] h u [] p k high = p k
  run_beyond short [] h u (x ∷ xs) p k high = absurd p
  run_beyond short (c ∷ cs) h u [] p k high = absurd p
  run_beyond short (c ∷ cs) h u (x ∷ xs) p k high =
      run_beyond short cs p.0 u xs p.2 k high ∙ called_beyond short (refusal_of d short c) c h p.0 x refl p.1 k high

-- all runs of the same calls answer the same, and leave the same letters
pub runs_equal : (d : Database) → Usable d → PointFacts d → (short : Bool) (h : Letters) (calls : List LaneCall) (xs ys : List LaneAnswer) (u v : Letters) → Run d short h calls xs u → Run d short h calls ys v → (xs ≡ ys) × ((p : ℕ) → u p ≡ v p)
runs_equal d usable facts short h calls xs ys u v p q =
    let both = runs_related (λ a b. a ≡ b) equal_respects d usable facts short calls calls h h u v xs ys (λ k low. refl) (calls_same (λ a b. a ≡ b) equal_respects calls) p q in (
      each_equal (AnswerBy (λ a b. a ≡ b)) answer_equal xs ys both.0,
      (λ k. ⊎_elim (both.1 k) (λ high. run_beyond d facts short calls h u xs p k high ∙ sym (run_beyond d facts short calls h v ys q k high)) (cases_lt k (held_count d))),
    )
