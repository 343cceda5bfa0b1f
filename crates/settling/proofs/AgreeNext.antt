-- The next letters are related where the letters of a clock are. Assumes nothing.
use Rattle.std.proofs.Common.{◌≡◌, ℕ, ◌+◌, ◌-◌, ◌<◌, List, get_or, ⊎_elim, sym, subst, subst₂, arith}
use Rattle.std.proofs.lemmas.Bool.{cases_lt, cases_eq}
use Rattle.level.specs.declared.letter.Letter.{Letter}
use Rattle.level.specs.declared.letter.Letter.TheVariants.{Zero, Unknown}
use Rattle.least.specs.Each.{IsRow}
use Rattle.database.specs.Rows.{Database}
use Rattle.control.specs.Points.{rank_of, point_of, step_point, input_bits, held_bits, register_bits, held_step}
use Rattle.control.specs.Letters.{Letters}
use Rattle.control.specs.Rules.{Follows, Clocked, WasReset, Opened, WasDriven, reset_letter}
use Rattle.control.specs.Laws.{Agree}
use Rattle.control.specs.Usable.{Usable}
use Rattle.settling.proofs.Agree.{Respects, PointFacts, StepsBy, NodeBy, next_bit_related, passed_to_related}
use Rattle.settling.proofs.AgreeTurns.{HeldBy, settled_related}

-- letters that are related on the held bits, and on the steps, are related on all that is held
pub held_by : (R : Letter → Letter → Type 0) (d : Database) (u x : Letters) → ((p : ℕ) → p < held_bits d → R (u p) (x p)) → ((s : ℕ) → IsRow d.steps s → R (u (held_step d s)) (x (held_step d s))) → HeldBy R d u x
held_by R d u x bits steps p low =
    ⊎_elim (bits p)
    (λ high.
    let s : ℕ = p - held_bits d + 1 in
    let is : held_step d s ≡ p = omega arith in
    subst (λ k. R (u k) (x k)) is (steps s (omega arith, omega arith)))
    (cases_lt p (held_bits d))

module _ (R : Letter → Letter → Type 0) (ops : Respects R) (d : Database) where
  module _ (usable : Usable d) (facts : PointFacts d) where
    pub steps_agree : (v w : Letters) → Agree R d v w → StepsBy R d v w
    steps_agree v w a s row = a.points (step_point d s) (omega (arith, row.0, row.1))

    -- what follows related letters is related
    pub follows_related : (v w h g u x : Letters) → Agree R d v w → HeldBy R d h g → Follows d v h u → Follows d w g x → HeldBy R d u x
    follows_related v w h g u x a held p q =
        let steps = steps_agree v w a in
        let nodes : (n : ℕ) → IsRow d.nodes n → NodeBy R d v w n = λ n row b wide. a.nodes n b row wide in
        held_by R d u x
        (λ k low.
        let within = facts.held_within in
        let (y, b, row, wide, is) = facts.found k (omega arith) in
        let ends = facts.ends y row in
        ⊎_elim
        (λ first.
        let end = facts.inputs_end y row (omega (arith, first)) in
        let input : k < input_bits d = omega (arith, is, wide, end) in
        subst₂ R (sym (p.inputs k input)) (sym (q.inputs k input)) (held k (omega arith)))
        (λ high.
        let memory : rank_of d y ≡ 2 = ⊎_elim (λ small. omega (arith, small, high)) (λ driven. absurd (let start = facts.driven_starts y row driven in omega (arith, start, is))) (cases_lt (rank_of d y) 3) in
        subst (λ j. R (u j) (x j)) (sym is)
        (subst₂ R (sym (p.registers y b row memory wide)) (sym (q.registers y b row memory wide)) (next_bit_related R ops d usable v w steps nodes y b (a.points (point_of d y b) (omega (arith, ends, wide))))))
        (cases_lt (rank_of d y) 2))
        (λ s row. subst₂ R (sym (p.steps s row)) (sym (q.steps s row)) (passed_to_related R ops d usable v w steps nodes s row))

    -- a clock keeps what is held related
    pub clocked_related : (h g u x : Letters) → HeldBy R d h g → Clocked d h u → Clocked d g x → HeldBy R d u x
    clocked_related h g u x held p q =
        follows_related p.letters q.letters h g u x (settled_related R ops d usable facts h g p.letters q.letters held p.settled q.settled) held p.follows q.follows

  -- and so do a reset, an opening with related letters, whatever was held before it, and a drive by related letters
  pub reset_related : (h g u x : Letters) → HeldBy R d h g → WasReset d h u → WasReset d g x → HeldBy R d u x
  reset_related h g u x held p q =
      held_by R d u x
      (λ k low. subst₂ R (sym (p.kept k low)) (sym (q.kept k low)) (held k (omega arith)))
      (λ s row. subst₂ R (sym (p.steps s row)) (sym (q.steps s row)) (ops.same (reset_letter d s)))

  pub opened_related : (starts others : List Letter) (h g u x : Letters) → ((i : ℕ) → i < register_bits d → R (get_or starts i Unknown) (get_or others i Unknown)) → Opened d starts h u → Opened d others g x → HeldBy R d u x
  opened_related starts others h g u x by p q =
      held_by R d u x
      (λ k low.
      ⊎_elim
      (λ input. subst₂ R (sym (p.inputs k input)) (sym (q.inputs k input)) (ops.same Zero))
      (λ behind.
      let i : ℕ = k - input_bits d in
      let few : i < register_bits d = omega arith in
      let is : input_bits d + i ≡ k = omega arith in
      subst (λ j. R (u j) (x j)) is (subst₂ R (sym (p.registers i few)) (sym (q.registers i few)) (by i few)))
      (cases_lt k (input_bits d)))
      (λ s row. subst₂ R (sym (p.steps s row)) (sym (q.steps s row)) (ops.same (reset_letter d s)))

  pub driven_held_related : (n : ℕ) (a b : Letter) (h g u x : Letters) → R a b → HeldBy R d h g → WasDriven n a h u → WasDriven n b g x → HeldBy R d u x
  driven_held_related n a b h g u x by held p q k low =
      ⊎_elim
      (λ is. subst (λ j. R (u j) (x j)) (sym is) (subst₂ R (sym p.driven) (sym q.driven) by))
      (λ other. subst₂ R (sym (p.others k other)) (sym (q.others k other)) (held k low))
      (cases_eq k n)
