-- What is passed to steps, exit by exit and step by step. Assumes nothing.
use Rattle.std.proofs.Common.{◌≡◌, ℕ, zero, suc, ◌+◌, ◌-◌, ◌≤◌, true, false, cond, ◌&&◌, nat_lt, nat_le, ◌==◌, length, refl, sym, ap, ap₂, ◌∙◌, ⊎_elim, arith}
use Rattle.std.proofs.lemmas.Bool.{cases_eq, cond-true, cond-false, eq-eqb, ne_eqb}
use Rattle.std.proofs.lemmas.Bool.Decides.{nat_tests}
use Rattle.level.specs.declared.letter.Letter.TheVariants.{Zero}
use Rattle.level.specs.Letters.{or_l}
use Rattle.database.specs.Rows.{Database, exit}
use Rattle.control.specs.Points.{sum_up_to, place}
use Rattle.control.specs.Letters.{Letters, joined}
use Rattle.control.specs.Rules.{passed, passed_on, passed_to, over_exits}
use Rattle.engine.specs.Inner.{exits_of, passed_first}
use Rattle.engine.proofs.NextRows.{or_zero}

module _ (d : Database) where
  pub over_none : (w : Letters) (s : ℕ) → over_exits d w s 0 ≡ Zero
  unfolding over_exits joined
  over_none w s = refl

  over_suc : (w : Letters) (s n : ℕ) → over_exits d w s (suc n) ≡ or_l (over_exits d w s n) (cond ((exit d (n + 1)).entered == s) (passed d w (n + 1)) Zero)
  unfolding over_exits joined
  over_suc w s n = refl

  pub over_more : (w : Letters) (s n : ℕ) → over_exits d w s (n + 1) ≡ or_l (over_exits d w s n) (cond ((exit d (n + 1)).entered == s) (passed d w (n + 1)) Zero)
  over_more w s n = let e : n + 1 ≡ suc n = omega arith in ap (over_exits d w s) e ∙ over_suc w s n

  pub exits_none : (s : ℕ) → exits_of d s 0 ≡ 0
  unfolding exits_of sum_up_to
  exits_none s = refl

  exits_suc : (s n : ℕ) → exits_of d s (suc n) ≡ exits_of d s n + cond ((exit d (n + 1)).left == s) 1 0
  unfolding exits_of sum_up_to
  exits_suc s n = refl

  pub exits_more : (s n : ℕ) → exits_of d s (n + 1) ≡ exits_of d s n + cond ((exit d (n + 1)).left == s) 1 0
  exits_more s n = let e : n + 1 ≡ suc n = omega arith in ap (exits_of d s) e ∙ exits_suc s n

  pub exits_few : (s n : ℕ) → exits_of d s n ≤ n
  exits_few s zero = omega (arith, exits_none s)
  exits_few s (suc n) =
      let one : cond {A = ℕ} ((exit d (n + 1)).left == s) 1 0 ≤ 1 = grind (arith, nat_tests) in
      omega (arith, exits_suc s n, exits_few s n)

  -- an exit waits for the bit of so many exits of its step before it
  pub place_is : (n : ℕ) → place d (n + 1) ≡ exits_of d (exit d (n + 1)).left n
  unfolding place exits_of
  place_is n = let e : n + 1 - 1 ≡ n = omega arith in ap (λ k. sum_up_to (λ i. cond ((exit d (i + 1)).left == (exit d (n + 1)).left) 1 0) k) e

  -- the first step has none before it
  pub first_none : (w : Letters) (s : ℕ) → passed_first d w s 1 ≡ over_exits d w s (length d.exits)
  unfolding passed_first
  first_none w s =
      let t : (nat_lt 1 s && nat_le s 1) ≡ false = grind (arith, nat_tests) in
      ap (or_l (over_exits d w s (length d.exits))) (cond-false _ (passed_on d w (s - 1)) Zero t) ∙ or_zero (over_exits d w s (length d.exits))

  -- one step more passes to the next
  pub first_more : (w : Letters) (s n : ℕ) → 1 ≤ n → passed_first d w s (n + 1) ≡ or_l (passed_first d w s n) (cond (n + 1 == s) (passed_on d w n) Zero)
  unfolding passed_first
  first_more w s n one =
      let along = over_exits d w s (length d.exits) in
      ⊎_elim
      (λ is.
      let before : (nat_lt 1 s && nat_le s n) ≡ false = grind (arith, nat_tests) in
      let after : (nat_lt 1 s && nat_le s (n + 1)) ≡ true = grind (arith, nat_tests) in
      let same : s - 1 ≡ n = omega arith in
      ap (or_l along) (cond-true _ (passed_on d w (s - 1)) Zero after ∙ ap (passed_on d w) same)
      ∙ sym (ap₂ or_l (ap (or_l along) (cond-false _ (passed_on d w (s - 1)) Zero before) ∙ or_zero along) (cond-true (n + 1 == s) (passed_on d w n) Zero (eq-eqb (n + 1) s is))))
      (λ ne.
      let t : (nat_lt 1 s && nat_le s (n + 1)) ≡ (nat_lt 1 s && nat_le s n) = grind (arith, nat_tests) in
      ap (λ t. or_l along (cond t (passed_on d w (s - 1)) Zero)) t
      ∙ sym (ap (or_l (passed_first d w s n)) (cond-false (n + 1 == s) (passed_on d w n) Zero (ne_eqb (n + 1) s ne)) ∙ or_zero (passed_first d w s n)))
      (cases_eq (n + 1) s)

  -- all steps have passed on
  pub first_all : (w : Letters) (s n : ℕ) → s ≤ n → passed_first d w s n ≡ passed_to d w s
  unfolding passed_first
  first_all w s n low =
      let t : (nat_lt 1 s && nat_le s n) ≡ nat_lt 1 s = grind (arith, nat_tests) in
      ap (λ t. or_l (over_exits d w s (length d.exits)) (cond t (passed_on d w (s - 1)) Zero)) t

pub ruleset exits = (exits_few, place_is)

pub ruleset steps = (first_none, first_more, first_all)
