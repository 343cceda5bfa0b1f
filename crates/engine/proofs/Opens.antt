-- What is held after an opening or a reset. Assumes nothing.
use Rattle.std.proofs.Common.{◌≡◌, ℕ, ◌+◌, ◌-◌, ◌≤◌, List, length, get_or, ap, subst, sym, ◌∙◌, arith}
use Rattle.std.proofs.lemmas.Bool.{eq-eqb, ne_eqb}
use Rattle.level.specs.declared.letter.Letter.TheVariants.{Zero, One}
use Rattle.level.specs.Letters.{bool_letter}
use Rattle.level.specs.declared.Level.{Ghosts}
use Rattle.least.proofs.Lists.{row_in}
use Rattle.database.specs.declared.rows.StepRow.{StepRow}
use Rattle.database.specs.Rows.{Database, no_step, step}
use Rattle.control.specs.Points.{point_count, held_bits, input_bits, register_bits, held_count}
use Rattle.control.specs.Letters.{column}
use Rattle.control.specs.Rules.{Opened, WasReset, reset_letter}
use Rattle.control.specs.Levels.{lane, InEachLane, OnlyIn, HeldRow}
use Rattle.control.specs.Usable.{Usable}
use Rattle.settling.proofs.Points.{held_within, inputs_held, bits_few}
use Rattle.engine.proofs.Lanes.{lane_same}
use Rattle.engine.proofs.Writes.{Written}

-- all points have room, and so has all that is held
pub points_few : (d : Database) → Usable d → point_count d ≤ 1088
points_few d usable = omega (arith, bits_few d usable, usable.few_steps)

pub held_few : (d : Database) → Usable d → held_count d ≤ 1088
held_few d usable = omega (arith, held_within d, bits_few d usable, usable.few_steps)

module _ {X : Type 0} (G : Ghosts X) (d : Database) where
  -- the steps of the first n rows were reset
  abbrev pub Resetting : ℕ → List X → List X → Type 0
  Resetting n old new = Written G (held_bits d) (λ k i. reset_letter d (i + 1)) n old new

  -- a level that is 1 where the row's mark is set, and else 0
  module _ (steps : List StepRow) (all : steps ≡ d.steps) (k n : ℕ) (v : X) where
    marked : (get_or steps n no_step).reset ≡ (step d (n + 1)).reset
    marked = ap (λ rows. (get_or rows n no_step).reset) all ∙ ap (λ i. (get_or d.steps i no_step).reset) (let e : n ≡ n + 1 - 1 = omega arith in e) ∙ ap (λ row. row.reset) (sym (row_in no_step d.steps (n + 1) (omega arith)))

    pub reset_one : (get_or steps n no_step).reset ≡ 1 → G.letters v k ≡ One → G.letters v k ≡ reset_letter d (n + 1)
    reset_one e is = is ∙ sym (ap bool_letter (eq-eqb (step d (n + 1)).reset 1 (sym marked ∙ e)))

    pub reset_zero : ((get_or steps n no_step).reset ≡ 1 → ⊥) → G.letters v k ≡ Zero → G.letters v k ≡ reset_letter d (n + 1)
    reset_zero ne is = is ∙ sym (ap bool_letter (ne_eqb (step d (n + 1)).reset 1 (λ e. ne (marked ∙ e))))

  pub was_reset : (old new : List X) → Resetting (length d.steps) old new → InEachLane G (λ k. WasReset d (lane G old k) (lane G new k))
  was_reset old new w k inside = record {
    steps = λ s row. w.rows k inside (s - 1) (omega (arith, row.0, row.1)) ∙ ap (reset_letter d) (let e : s - 1 + 1 ≡ s = omega (arith, row.0) in e);
    kept = λ p low. lane_same G k old new p w.length (λ x. w.before p x low);
    others = λ p high. lane_same G k old new p w.length (λ x. w.behind p x high);
  }

  pub reset_only : (old new : List X) → Resetting (length d.steps) old new → OnlyIn (HeldRow d) old new
  reset_only old new w = record {
    length = w.length;
    rows = λ r x unused. w.behind r x (omega (arith, unused));
  }

  -- the inputs are 0, then the registers have their letters, then there was a reset
  module _ (starts old zeros begun new : List X) (zeroed : Written G 0 (λ k i. Zero) (input_bits d) old zeros) (filled : Written G (input_bits d) (λ k i. lane G starts k i) (register_bits d) zeros begun) where
    bits : input_bits d + register_bits d ≡ held_bits d
    bits = omega (arith, inputs_held d)

    pub opened : InEachLane G (λ k. WasReset d (lane G begun k) (lane G new k)) → InEachLane G (λ k. Opened d (column G.letters k starts) (lane G old k) (lane G new k))
    opened reset k inside =
        let r = reset k inside in
        record {
          inputs = λ p low.
              r.kept p (omega (arith, inputs_held d)) ∙ lane_same G k zeros begun p filled.length (λ x. filled.before p x low)
              ∙ subst (λ q. lane G zeros k q ≡ Zero) (let e : 0 + p ≡ p = omega arith in e) (zeroed.rows k inside p low);
          registers = λ i low. r.kept (input_bits d + i) (omega (arith, bits)) ∙ filled.rows k inside i low;
          steps = r.steps;
          others = λ p high.
              r.others p high ∙ lane_same G k zeros begun p filled.length (λ x. filled.behind p x (omega (arith, bits)))
              ∙ lane_same G k old zeros p zeroed.length (λ x. zeroed.behind p x (omega (arith, bits)));
        }

    pub opened_only : OnlyIn (HeldRow d) begun new → OnlyIn (HeldRow d) old new
    opened_only only = record {
      length = only.length ∙ filled.length ∙ zeroed.length;
      rows = λ r x unused. only.rows r x unused ∙ filled.behind r x (omega (arith, unused, bits)) ∙ zeroed.behind r x (omega (arith, unused, bits));
    }
