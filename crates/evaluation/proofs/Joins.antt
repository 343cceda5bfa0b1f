-- What targets give, joined one by one. Assumes nothing.
use Rattle.std.proofs.Common.{◌≡◌, ℕ, zero, suc, ◌+◌, ◌-◌, ◌<◌, ◌≤◌, true, false, cond, ◌&&◌, nat_lt, nat_le, ◌==◌, List, length, set, refl, sym, ap, ap₂, ◌∙◌, subst, ⊎_elim, arith}
use Rattle.std.proofs.lemmas.Bool.{cases_eq, cond-true, cond-false, eq-eqb, ne_eqb}
use Rattle.std.proofs.lemmas.Bool.Decides.{nat_tests}
use Rattle.level.specs.declared.letter.Letter.{Letter}
use Rattle.level.specs.declared.letter.Letter.TheVariants.{Zero, One, Unknown}
use Rattle.level.specs.declared.Level.{Ghosts}
use Rattle.level.specs.Letters.{or_l}
use Rattle.least.specs.Each.{IsRow}
use Rattle.database.specs.Rows.{Database, target}
use Rattle.control.specs.Letters.{joined}
use Rattle.control.specs.Levels.{lane}
use Rattle.control.specs.Rules.{names, over_targets}
use Rattle.design.specs.Derived.{FirstNaming}
use Rattle.evaluation.specs.Inner.{targets_before, AtTarget}
use Rattle.evaluation.proofs.Rights.{lane_same, lane_other}

or_zero : (a : Letter) → or_l a Zero ≡ a
or_zero Zero = refl
or_zero One = refl
or_zero Unknown = refl

-- one bit more of those that a target names
module _ {X : Type 0} (G : Ghosts X) (k : ℕ) (first next : ℕ) (f : ℕ → Letter) where
  -- up to the next one, in a lane
  abbrev JoinsTo : List X → List X → ℕ → Type 0
  JoinsTo old new next = (b : ℕ) → b < 32 → lane G new k b ≡ or_l (lane G old k b) (cond (nat_le first b && nat_lt b next) (f b) Zero)

  pub joins_turn : (old now : List X) (v : X) {given : Letter} → first ≤ next → next < length now → JoinsTo old now next
      → G.letters v k ≡ or_l (lane G now k next) given → given ≡ f next → JoinsTo old (set now next v) (next + 1)
  joins_turn old now v {given} from low so_far e is b wide =
      ⊎_elim
      (λ same.
      let here : next < 32 = omega arith in
      let before : cond (nat_le first next && nat_lt next next) (f next) Zero ≡ Zero = let t : (nat_le first next && nat_lt next next) ≡ false = grind (arith, nat_tests) in cond-false _ _ _ t in
      let after : cond (nat_le first next && nat_lt next (next + 1)) (f next) Zero ≡ f next = let t : (nat_le first next && nat_lt next (next + 1)) ≡ true = grind (arith, nat_tests) in cond-true _ _ _ t in
      subst (λ b. lane G (set now next v) k b ≡ or_l (lane G old k b) (cond (nat_le first b && nat_lt b (next + 1)) (f b) Zero)) (sym same)
      (lane_same G k now next v low ∙ e
      ∙ ap₂ or_l (so_far next here ∙ ap (or_l (lane G old k next)) before ∙ or_zero (lane G old k next)) (is ∙ sym after)))
      (λ ne.
      let t : (nat_le first b && nat_lt b next) ≡ (nat_le first b && nat_lt b (next + 1)) = grind (arith, nat_tests) in
      lane_other G k now next v b ne ∙ so_far b wide ∙ ap (λ t. or_l (lane G old k b) (cond t (f b) Zero)) t)
      (cases_eq b next)

  pub joins_none : (old : List X) → next ≤ first → JoinsTo old old next
  joins_none old h b wide =
      let t : (nat_le first b && nat_lt b next) ≡ false = grind (arith, nat_tests) in
      sym (ap (or_l (lane G old k b)) (cond-false (nat_le first b && nat_lt b next) (f b) Zero t) ∙ or_zero (lane G old k b))

-- an OR over targets
module _ (d : Database) (y b : ℕ) (f : ℕ → Letter) where
  pub over_none : over_targets d y b f 0 ≡ Zero
  unfolding over_targets joined
  over_none = refl

  over_more : (n : ℕ) → over_targets d y b f (suc n) ≡ or_l (over_targets d y b f n) (cond (names d (n + 1) y b) (f (n + 1)) Zero)
  unfolding over_targets joined
  over_more n = refl

  -- targets that do not name the symbol add nothing
  over_skip : (m n : ℕ) → ((t : ℕ) → m < t → t ≤ m + n → (target d t).symbol ≡ y → ⊥) → over_targets d y b f (m + n) ≡ over_targets d y b f m
  over_skip m zero h = let e : m + zero ≡ m = omega arith in ap (over_targets d y b f) e
  over_skip m (suc n) h =
      let e : m + suc n ≡ suc (m + n) = omega arith in
      let no : names d (m + n + 1) y b ≡ false = ap (λ t. t && (nat_le (target d (m + n + 1)).first b && nat_le b (target d (m + n + 1)).last)) (ne_eqb _ y (h (m + n + 1) (omega arith) (omega arith))) in
      ap (over_targets d y b f) e ∙ over_more (m + n)
      ∙ ap (or_l (over_targets d y b f (m + n))) (cond-false (names d (m + n + 1) y b) (f (m + n + 1)) Zero no) ∙ or_zero (over_targets d y b f (m + n))
      ∙ over_skip m n (λ t p q. h t p (omega arith))

-- from a target that names a symbol to the next one
module _ (d : Database) (y : ℕ) where
  pub before_zero : (n : ℕ) → n ≡ 0 → targets_before d n ≡ length d.targets
  before_zero n e = cond-true (n == 0) (length d.targets) (n - 1) (eq-eqb n 0 e)

  pub before_some : (n : ℕ) → 1 ≤ n → targets_before d n ≡ n - 1
  before_some n one = cond-false (n == 0) (length d.targets) (n - 1) (ne_eqb n 0 (λ e. omega arith))

  module _ (from m : ℕ) (next : FirstNaming d y from m) where
    pub at_next : AtTarget d y m
    at_next = record { there = next.there; names = next.names }

    module _ (one : 1 ≤ from) where
      pub none_between : (t : ℕ) → from ≤ t → t ≤ targets_before d m → (target d t).symbol ≡ y → ⊥
      none_between t h k =
          ⊎_elim
          (λ e. next.none e t h (omega arith, omega (arith, before_zero m e)))
          (λ ne. let some : 1 ≤ m = omega (arith, ne) in next.first some t h (omega (arith, before_some m some)))
          (cases_eq m 0)

      pub before_next : from ≤ length d.targets + 1 → from - 1 ≤ targets_before d m
      before_next h =
          ⊎_elim
          (λ e. omega (arith, before_zero m e))
          (λ ne. let some : 1 ≤ m = omega (arith, ne) in omega (arith, before_some m some, next.from_there some))
          (cases_eq m 0)

      over_next : (b : ℕ) (f : ℕ → Letter) → from ≤ length d.targets + 1 → over_targets d y b f (targets_before d m) ≡ over_targets d y b f (from - 1)
      over_next b f h =
          let low = before_next h in
          let e : targets_before d m ≡ from - 1 + (targets_before d m - (from - 1)) = omega arith in
          ap (over_targets d y b f) e ∙ over_skip d y b f (from - 1) (targets_before d m - (from - 1)) (λ t p q. none_between t (omega arith) (omega arith))

  pub before_within : (m : ℕ) → m ≤ length d.targets → targets_before d m ≤ length d.targets
  before_within m h = ⊎_elim (λ e. omega (arith, before_zero m e)) (λ ne. omega (arith, before_some m (omega (arith, ne)))) (cases_eq m 0)

  -- nothing is given before the first
  pub over_first : (m b : ℕ) (f : ℕ → Letter) → FirstNaming d y 1 m → over_targets d y b f (targets_before d m) ≡ Zero
  over_first m b f next = over_next 1 m next (omega arith) b f (omega arith) ∙ over_none d y b f

  -- one target is given, and the next is sought
  module _ (n m : ℕ) (is : (target d n).symbol ≡ y) (row : IsRow d.targets n) (next : FirstNaming d (target d n).symbol (n + 1) m) where
    follows : FirstNaming d y (n + 1) m
    follows = subst (λ v. FirstNaming d v (n + 1) m) is next

    pub at_following : AtTarget d y m
    at_following = at_next (n + 1) m follows

    pub chain_falls : length d.targets - targets_before d m < length d.targets - targets_before d n
    chain_falls = omega (arith, before_some n row.0, before_next (n + 1) m follows (omega arith) (omega (arith, row.1)))

    pub over_following : (b : ℕ) (f : ℕ → Letter) {old new : Letter} → old ≡ over_targets d y b f (targets_before d n)
        → new ≡ or_l old (cond (nat_le (target d n).first b && nat_lt b ((target d n).last + 1)) (f n) Zero) → new ≡ over_targets d y b f (targets_before d m)
    over_following b f {old} {new} so_far e =
        let same : suc (n - 1) ≡ n + 1 - 1 = omega (arith, row.0) in
        let own : n - 1 + 1 ≡ n = omega (arith, row.0) in
        let inside : (nat_le (target d n).first b && nat_lt b ((target d n).last + 1)) ≡ (nat_le (target d n).first b && nat_le b (target d n).last) = grind (arith, nat_tests) in
        let named : names d n y b ≡ (nat_le (target d n).first b && nat_le b (target d n).last) = ap (λ t. t && (nat_le (target d n).first b && nat_le b (target d n).last)) (eq-eqb _ y is) in
        e ∙ ap₂ or_l (so_far ∙ ap (over_targets d y b f) (before_some n row.0)) (ap (λ t. cond t (f n) Zero) (inside ∙ sym named) ∙ ap (λ t. cond (names d t y b) (f t) Zero) (sym own))
        ∙ sym (over_more d y b f (n - 1)) ∙ ap (over_targets d y b f) same
        ∙ sym (over_next (n + 1) m follows (omega arith) b f (omega (arith, row.1)))
