-- There are letters that the rules settle, and letters that follow them. Assumes nothing.
use Rattle.std.proofs.Common.{◌≡◌, ℕ, zero, suc, ◌+◌, ◌-◌, ◌/◌, ◌%◌, ◌<◌, ◌≤◌, List, length, get_or, ⊎_elim, refl, ap, ap₂, sym, ◌∙◌, subst, arith, cond, ◌==◌}
use Rattle.std.proofs.lemmas.Bool.{cases_lt, eq-eqb, ne_eqb}
use Rattle.level.specs.declared.letter.Letter.{Letter}
use Rattle.level.specs.declared.letter.Letter.TheVariants.{Zero, Unknown}
use Rattle.level.specs.Letters.{not_l, and_l, or_l, xor_l}
use Rattle.least.specs.Each.{IsRow}
use Rattle.database.specs.Rows.{Database, node}
use Rattle.control.specs.Points.{rank_of, width_of, point_of, step_point, input_bits, held_bits, all_bits, register_bits, point_count, held_step, held_count, bit_row}
use Rattle.control.specs.Letters.{Letters, node_letter}
use Rattle.control.specs.Rules.{driven, Settled, next_bit, passed_to, Follows, Clocked, reset_letter, WasReset, Opened, WasDriven}
use Rattle.control.specs.Usable.{Usable}
use Rattle.settling.proofs.Agree.{Respects, PointFacts}
use Rattle.settling.proofs.AgreeTurns.{Made, RelatedBy, turn, related_first, related_next, related_last}

-- every operation keeps equality
pub equal_respects : Respects (λ a b. a ≡ b)
equal_respects = record {
  same = λ a. refl;
  not_l = λ a b e. ap not_l e;
  and_l = λ a b x y e f. ap₂ and_l e f;
  or_l = λ a b x y e f. ap₂ or_l e f;
  xor_l = λ a b x y e f. ap₂ xor_l e f;
}

-- what the rules want of the letter of one row
record MadeAt (d : Database) (h v : Letters) (p : ℕ) (x : Letter) : Type 0 where
  held : p < held_bits d → x ≡ h p
  steps : (s : ℕ) → IsRow d.steps s → p ≡ step_point d s → x ≡ h (held_step d s)
  nodes : (n b : ℕ) → IsRow d.nodes n → b < (node d n).width → p ≡ bit_row n b → x ≡ node_letter d v n b
  driven : (y b : ℕ) → IsRow d.symbols y → 3 ≤ rank_of d y → b < width_of d y → p ≡ point_of d y b → x ≡ driven d v y b

record FollowsAt (d : Database) (w h : Letters) (p : ℕ) (x : Letter) : Type 0 where
  registers : (y b : ℕ) → IsRow d.symbols y → rank_of d y ≡ 2 → b < width_of d y → p ≡ point_of d y b → x ≡ next_bit d w y b
  steps : (s : ℕ) → IsRow d.steps s → p ≡ held_step d s → x ≡ passed_to d w s
  inputs : p < input_bits d → x ≡ h p
  others : held_count d ≤ p → x ≡ h p

module _ (d : Database) (usable : Usable d) (facts : PointFacts d) where
  same_bit : (y z b c : ℕ) → IsRow d.symbols y → IsRow d.symbols z → b < width_of d y → c < width_of d z → point_of d y b ≡ point_of d z c → (f : ℕ → ℕ → Letter) → f y b ≡ f z c
  same_bit y z b c one two wide deep e f =
      let same = facts.apart y z b c one two wide deep e in
      let place : b ≡ c = let it = ap (λ k. point_of d k c) same in omega (arith, e, it) in
      ap₂ f same place

  module _ (h v : Letters) (p : ℕ) where
    made_held : p < held_bits d → (x : Letter) × MadeAt d h v p x
    made_held low = (
      h p,
      record {
        held = λ l. refl;
        steps = λ s row e. absurd (let within = facts.held_within in omega arith);
        nodes = λ n b row wide e. absurd (let within = facts.held_within in let few = usable.few_bits in omega arith);
        driven = λ y b row high wide e. absurd (let start = facts.driven_starts y row high in omega (arith, start));
      },
    )

    made_driven : held_bits d ≤ p → p < all_bits d → (x : Letter) × MadeAt d h v p x
    made_driven high low =
        let (y, b, row, wide, is) = facts.found p low in (
          driven d v y b,
          record {
            held = λ l. absurd (omega arith);
            steps = λ s step_row e. absurd (omega arith);
            nodes = λ n c node_row deep e. absurd (let few = usable.few_bits in omega arith);
            driven = λ z c other_row rank deep e. same_bit y z b c row other_row wide deep (sym is ∙ e) (driven d v);
          },
        )

    made_step : all_bits d ≤ p → p < point_count d → (x : Letter) × MadeAt d h v p x
    made_step high low = (
      h (held_step d (p - all_bits d + 1)),
      record {
        held = λ l. absurd (let within = facts.held_within in omega arith);
        steps = λ s row e. ap (λ k. h (held_step d k)) (let one = row.0 in omega arith);
        nodes = λ n b row wide e. absurd (let few = usable.few_bits in let some = usable.few_steps in omega arith);
        driven = λ y b row rank wide e. absurd (let end = facts.ends y row in omega arith);
      },
    )

    made_node : point_count d ≤ p → (x : Letter) × MadeAt d h v p x
    made_node high = (
      node_letter d v ((p - 1088) / 32 + 1) ((p - 1088) % 32),
      record {
        held = λ l. absurd (let within = facts.held_within in omega arith);
        steps = λ s row e. absurd (let many = row.1 in let one = row.0 in omega arith);
        nodes = λ n b row wide e.
            let narrow = (usable.nodes n row).width.1 in
            let one = row.0 in
            let number : (p - 1088) / 32 + 1 ≡ n = omega (arith, narrow, one, e, wide) in
            let place : (p - 1088) % 32 ≡ b = omega (arith, narrow, one, e, wide) in
            ap₂ (node_letter d v) number place;
        driven = λ y b row rank wide e. absurd (let end = facts.ends y row in omega arith);
      },
    )

    made_at : (x : Letter) × MadeAt d h v p x
    made_at =
        ⊎_elim made_held
        (λ driven_row.
        ⊎_elim (made_driven driven_row)
        (λ step_row. ⊎_elim (made_step step_row) made_node (cases_lt p (point_count d)))
        (cases_lt p (all_bits d)))
        (cases_lt p (held_bits d))

  -- the rules make letters of any letters
  pub made_some : (h v : Letters) → (u : Letters) × Made d h v u
  made_some h v = (
    (λ p. (made_at h v p).0),
    record {
      held = λ p low. (made_at h v p).1.held low;
      steps = λ s row. (made_at h v (step_point d s)).1.steps s row refl;
      nodes = λ n b row wide. (made_at h v (bit_row n b)).1.nodes n b row wide refl;
      driven = λ y b row high wide. (made_at h v (point_of d y b)).1.driven y b row high wide refl;
    },
  )

  -- the rules, turn by turn
  turns : Letters → ℕ → Letters
  turns h zero = λ p. Zero
  turns h (suc t) = (made_some h (turns h t)).0

  turns_made : (h : Letters) (t : ℕ) → Made d h (turns h t) (turns h (suc t))
  unfolding turns
  turns_made h t = (made_some h (turns h t)).1

  turns_related : (h : Letters) (t : ℕ) → RelatedBy (λ a b. a ≡ b) d t (turns h t) (turns h (suc t))
  turns_related h zero = related_first (λ a b. a ≡ b) equal_respects d usable facts (turns h zero) (turns h (suc zero))
  turns_related h (suc t) =
      subst (λ k. RelatedBy (λ a b. a ≡ b) d k (turns h (suc t)) (turns h (suc (suc t)))) (let e : t + 1 ≡ suc t = omega arith in e)
      (related_next (λ a b. a ≡ b) equal_respects d usable facts t h h (turns h t) (turns h (suc t)) (turns h (suc t)) (turns h (suc (suc t))) (λ p low. refl) (turns_related h t) (turns_made h t) (turns_made h (suc t)))

  -- whatever is held, there are letters that are settled
  pub settled_some : (h : Letters) → (w : Letters) × Settled d h w
  settled_some h =
      let t : ℕ = turn (length d.symbols + 2) 0 in
      let made = turns_made h t in
      let same = related_last (λ a b. a ≡ b) equal_respects d usable facts t (turns h t) (turns h (suc t)) (omega arith) (turns_related h t) in (
        turns h t,
        record {
          held = λ p low. same.points p (let within = facts.held_within in omega arith) ∙ made.held p low;
          steps = λ s row. same.points (step_point d s) (omega (arith, row.0, row.1)) ∙ made.steps s row;
          nodes = λ n b row wide. same.nodes n b row wide ∙ made.nodes n b row wide;
          driven = λ y b row high wide. same.points (point_of d y b) (let end = facts.ends y row in omega arith) ∙ made.driven y b row high wide;
        },
      )

  module _ (w h : Letters) (p : ℕ) where
    follows_memory : input_bits d ≤ p → p < held_bits d → (x : Letter) × FollowsAt d w h p x
    follows_memory high low =
        let within = facts.held_within in
        let (y, b, row, wide, is) = facts.found p (omega arith) in (
          next_bit d w y b,
          record {
            registers = λ z c other_row rank deep e. same_bit y z b c row other_row wide deep (sym is ∙ e) (next_bit d w);
            steps = λ s step_row e. absurd (omega arith);
            inputs = λ l. absurd (omega arith);
            others = λ l. absurd (omega arith);
          },
        )

    follows_step : held_bits d ≤ p → p < held_count d → (x : Letter) × FollowsAt d w h p x
    follows_step high low = (
      passed_to d w (p - held_bits d + 1),
      record {
        registers = λ y b row rank wide e. absurd (let end = facts.held_ends y row (omega (arith, rank)) in omega arith);
        steps = λ s row e. ap (passed_to d w) (let one = row.0 in omega arith);
        inputs = λ l. absurd (let within = facts.inputs_held in omega arith);
        others = λ l. absurd (omega arith);
      },
    )

    follows_input : p < input_bits d → (x : Letter) × FollowsAt d w h p x
    follows_input low = (
      h p,
      record {
        registers = λ y b row rank wide e. absurd (let start = facts.memory_starts y row (omega (arith, rank)) in omega arith);
        steps = λ s row e. absurd (let within = facts.inputs_held in omega arith);
        inputs = λ l. refl;
        others = λ l. refl;
      },
    )

    follows_other : held_count d ≤ p → (x : Letter) × FollowsAt d w h p x
    follows_other high = (
      h p,
      record {
        registers = λ y b row rank wide e. absurd (let end = facts.held_ends y row (omega (arith, rank)) in omega arith);
        steps = λ s row e. absurd (let many = row.1 in let one = row.0 in omega arith);
        inputs = λ l. refl;
        others = λ l. refl;
      },
    )

    follows_at : (x : Letter) × FollowsAt d w h p x
    follows_at =
        ⊎_elim follows_input
        (λ memory_row.
        ⊎_elim (follows_memory memory_row)
        (λ step_row. ⊎_elim (follows_step step_row) follows_other (cases_lt p (held_count d)))
        (cases_lt p (held_bits d)))
        (cases_lt p (input_bits d))

  -- there are letters that follow
  pub follows_some : (w h : Letters) → (u : Letters) × Follows d w h u
  follows_some w h = (
    (λ p. (follows_at w h p).0),
    record {
      registers = λ y b row rank wide. (follows_at w h (point_of d y b)).1.registers y b row rank wide refl;
      steps = λ s row. (follows_at w h (held_step d s)).1.steps s row refl;
      inputs = λ p low. (follows_at w h p).1.inputs low;
      others = λ p high. (follows_at w h p).1.others high;
    },
  )

  -- there are held letters after a clock
  pub clocked_some : (h : Letters) → (u : Letters) × Clocked d h u
  clocked_some h =
      let (w, settled) = settled_some h in
      let (u, follows) = follows_some w h in
      (u, record { letters = w; settled = settled; follows = follows })

-- what a reset and an opening want of the letter of one row
record ResetAt (d : Database) (h : Letters) (p : ℕ) (x : Letter) : Type 0 where
  steps : (s : ℕ) → IsRow d.steps s → p ≡ held_step d s → x ≡ reset_letter d s
  kept : p < held_bits d → x ≡ h p
  others : held_count d ≤ p → x ≡ h p

record OpenedAt (d : Database) (starts : List Letter) (h : Letters) (p : ℕ) (x : Letter) : Type 0 where
  inputs : p < input_bits d → x ≡ Zero
  registers : (i : ℕ) → i < register_bits d → p ≡ input_bits d + i → x ≡ get_or starts i Unknown
  steps : (s : ℕ) → IsRow d.steps s → p ≡ held_step d s → x ≡ reset_letter d s
  others : held_count d ≤ p → x ≡ h p

module _ (d : Database) (h : Letters) (p : ℕ) where
  reset_at : (x : Letter) × ResetAt d h p x
  reset_at =
      ⊎_elim
      (λ low. (h p, record { steps = λ s row e. absurd (omega arith); kept = λ l. refl; others = λ l. refl }))
      (λ high.
      ⊎_elim
      (λ few. (
        reset_letter d (p - held_bits d + 1),
        record {
          steps = λ s row e. ap (reset_letter d) (let one = row.0 in omega arith);
          kept = λ l. absurd (omega arith);
          others = λ l. absurd (omega arith);
        },
      ))
      (λ many. (h p, record { steps = λ s row e. absurd (let last = row.1 in let one = row.0 in omega arith); kept = λ l. refl; others = λ l. refl }))
      (cases_lt p (held_count d)))
      (cases_lt p (held_bits d))

  module _ (starts : List Letter) (within : input_bits d ≤ held_bits d) where
    opened_input : p < input_bits d → (x : Letter) × OpenedAt d starts h p x
    opened_input low = (
      Zero,
      record {
        inputs = λ l. refl;
        registers = λ i l e. absurd (omega arith);
        steps = λ s row e. absurd (omega arith);
        others = λ l. absurd (omega arith);
      },
    )

    opened_register : input_bits d ≤ p → p < held_bits d → (x : Letter) × OpenedAt d starts h p x
    opened_register high low = (
      get_or starts (p - input_bits d) Unknown,
      record {
        inputs = λ l. absurd (omega arith);
        registers = λ i l e. ap (λ k. get_or starts k Unknown) (omega arith);
        steps = λ s row e. absurd (omega arith);
        others = λ l. absurd (omega arith);
      },
    )

    opened_step : held_bits d ≤ p → p < held_count d → (x : Letter) × OpenedAt d starts h p x
    opened_step high low = (
      reset_letter d (p - held_bits d + 1),
      record {
        inputs = λ l. absurd (omega arith);
        registers = λ i l e. absurd (omega arith);
        steps = λ s row e. ap (reset_letter d) (let one = row.0 in omega arith);
        others = λ l. absurd (omega arith);
      },
    )

    opened_other : held_count d ≤ p → (x : Letter) × OpenedAt d starts h p x
    opened_other high = (
      h p,
      record {
        inputs = λ l. absurd (omega arith);
        registers = λ i l e. absurd (omega arith);
        steps = λ s row e. absurd (let last = row.1 in let one = row.0 in omega arith);
        others = λ l. refl;
      },
    )

    opened_at : (x : Letter) × OpenedAt d starts h p x
    opened_at =
        ⊎_elim opened_input
        (λ register_row.
        ⊎_elim (opened_register register_row)
        (λ step_row. ⊎_elim (opened_step step_row) opened_other (cases_lt p (held_count d)))
        (cases_lt p (held_bits d)))
        (cases_lt p (input_bits d))

-- there are held letters after a reset, after an opening, and after a drive
pub reset_some : (d : Database) (h : Letters) → (u : Letters) × WasReset d h u
reset_some d h = (
  (λ p. (reset_at d h p).0),
  record {
    steps = λ s row. (reset_at d h (held_step d s)).1.steps s row refl;
    kept = λ p low. (reset_at d h p).1.kept low;
    others = λ p high. (reset_at d h p).1.others high;
  },
)

pub opened_some : (d : Database) (starts : List Letter) (h : Letters) → input_bits d ≤ held_bits d → (u : Letters) × Opened d starts h u
opened_some d starts h within = (
  (λ p. (opened_at d h p starts within).0),
  record {
    inputs = λ p low. (opened_at d h p starts within).1.inputs low;
    registers = λ i low. (opened_at d h (input_bits d + i) starts within).1.registers i low refl;
    steps = λ s row. (opened_at d h (held_step d s) starts within).1.steps s row refl;
    others = λ p high. (opened_at d h p starts within).1.others high;
  },
)

pub driven_some : (n : ℕ) (x : Letter) (h : Letters) → (u : Letters) × WasDriven n x h u
driven_some n x h = (
  (λ p. cond (p == n) x (h p)),
  record {
    driven = ap (λ t. cond t x (h n)) (eq-eqb n n refl);
    others = λ p other. ap (λ t. cond t x (h p)) (ne_eqb p n other);
  },
)
