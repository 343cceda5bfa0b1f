-- Registers and steps are given the letters of all that follows, row by row. Assumes nothing.
use Rattle.std.proofs.Common.{◌≡◌, ℕ, ◌+◌, ◌-◌, ◌<◌, ◌≤◌, List, length, set, Option, Some, None, refl, sym, ap, ◌∙◌, subst, ⊎_elim, arith, below_more}
use Rattle.std.proofs.lemmas.Bool.{cases_eq}
use Rattle.grammar.specs.declared.draft.Class.{Class}
use Rattle.grammar.specs.declared.draft.Class.TheVariants.{Input, Output, Memory, Bus}
use Rattle.level.specs.declared.Level.{Ghosts}
use Rattle.least.specs.Each.{IsRow}
use Rattle.database.specs.Rows.{Database}
use Rattle.control.specs.Points.{base, rank, rank_of, width_of, point_of, held_step, held_count}
use Rattle.control.specs.Rules.{next_bit, passed_to, Follows}
use Rattle.control.specs.Levels.{lane, LevelIs}
use Rattle.control.specs.Usable.{Usable}
use Rattle.settling.proofs.Points.{ends_held, held_within}
use Rattle.settling.proofs.Exists.{follows_some}
use Rattle.settling.proofs.RunsFacts.{point_facts}
use Rattle.engine.specs.Inner.{Right, BitsRight, RegistersRight, StepsRight, Loads}
use Rattle.engine.proofs.NextRows.{lane_same, write_keeps}

-- a symbol of that rank is of the memory
pub memory_rank : (class : Option Class) → rank class ≡ 2 → class ≡ Some Memory
memory_rank None e = absurd (omega arith)
memory_rank (Some Input) e = absurd (omega arith)
memory_rank (Some Memory) e = refl
memory_rank (Some Bus) e = absurd (omega arith)
memory_rank (Some Output) e = absurd (omega arith)

-- the rows that are held have room
module _ (d : Database) (usable : Usable d) where
  pub held_few : held_count d ≤ 1088
  held_few = omega (arith, held_within d, usable.few_bits, usable.few_steps)

  pub register_held : (y : ℕ) → IsRow d.symbols y → rank_of d y ≡ 2 → base d y + width_of d y ≤ held_count d
  register_held y row rank = let low : rank_of d y ≤ 2 = omega arith in omega (arith, ends_held d y row low)

  pub register_few : (y : ℕ) → IsRow d.symbols y → rank_of d y ≡ 2 → base d y + width_of d y ≤ 1088
  register_few y row rank = omega (arith, register_held y row rank, held_few)

module _ {X : Type 0} (G : Ghosts X) (d : Database) (work : List X) where
  -- one bit more of a register
  pub loads_bit : (old now : List X) (y b r : ℕ) (v : X) → IsRow d.symbols y → rank_of d y ≡ 2 → b < width_of d y → r < length now → r ≡ point_of d y b
      → LevelIs G v (λ k. next_bit d (lane G work k) y b) → Loads G d work old now (BitsRight d y b) → Loads G d work old (set now r v) (BitsRight d y (b + 1))
  loads_bit old now y b r v row rank wide low place level so_far k below h u follows =
      let before = so_far k below h u follows in
      let is : G.letters v k ≡ u r = level k below ∙ sym (follows.registers y b row rank wide) ∙ ap u (sym place) in
      let keeps = write_keeps G k now r v u low is in
      ((λ q e. keeps q (before.0 q e)), below_more _ _ (λ j l. keeps _ (before.1 j l)) (subst (Right u (lane G (set now r v) k)) place (lane_same G k now r v low ∙ is)))

  -- one step more
  pub loads_step : (old now : List X) (i r : ℕ) (v : X) → i < length d.steps → r < length now → r ≡ held_step d (i + 1)
      → LevelIs G v (λ k. passed_to d (lane G work k) (i + 1)) → Loads G d work old now (StepsRight d i) → Loads G d work old (set now r v) (StepsRight d (i + 1))
  loads_step old now i r v few low place level so_far k below h u follows =
      let before = so_far k below h u follows in
      let is : G.letters v k ≡ u r = level k below ∙ sym (follows.steps (i + 1) (omega arith, omega arith)) ∙ ap u (sym place) in
      let keeps = write_keeps G k now r v u low is in
      let new : Right u (lane G (set now r v) k) (held_step d (i + 1)) = subst (Right u (lane G (set now r v) k)) place (lane_same G k now r v low ∙ is) in
      ((λ q e. keeps q (before.0 q e)), (λ s one up. ⊎_elim (λ e. subst (λ t. Right u (lane G (set now r v) k) (held_step d t)) (sym e) new) (λ ne. keeps _ (before.1 s one (omega (arith, ne)))) (cases_eq s (i + 1))))

  -- one symbol more: a register, or another
  pub loads_register : (old now new : List X) (y : ℕ) → 1 ≤ y → Loads G d work old now (RegistersRight d (y - 1)) → Loads G d work now new (BitsRight d y (width_of d y))
      → Loads G d work old new (RegistersRight d (y + 1 - 1))
  loads_register old now new y one so_far turn k below h u follows =
      let before = so_far k below h u follows in
      let after = turn k below h u follows in
      ((λ q e. after.0 q (before.0 q e)), (λ z first up rank. ⊎_elim (λ e. subst (λ t. BitsRight d t (width_of d t) u (lane G new k)) (sym e) after.1) (λ ne b wide. after.0 _ (before.1 z first (omega (arith, ne)) rank b wide)) (cases_eq z y)))

  pub loads_other : (old now : List X) (y : ℕ) → 1 ≤ y → ¬ (rank_of d y ≡ 2) → Loads G d work old now (RegistersRight d (y - 1)) → Loads G d work old now (RegistersRight d (y + 1 - 1))
  loads_other old now y one other so_far k below h u follows =
      let before = so_far k below h u follows in
      (before.0, (λ z first up rank. ⊎_elim (λ e. absurd (other (subst (λ t. rank_of d t ≡ 2) e rank))) (λ ne. before.1 z first (omega (arith, ne)) rank) (cases_eq z y)))

  -- once all registers and all steps are right, what is held follows what was
  pub loaded_follows : (old now new : List X) → Usable d → Loads G d work old now (RegistersRight d (length d.symbols)) → Loads G d work now new (StepsRight d (length d.steps))
      → (k : ℕ) → k < G.LANES → Follows d (lane G work k) (lane G old k) (lane G new k)
  loaded_follows old now new usable registers steps k below =
      let h = lane G old k in
      let some = follows_some d usable (point_facts d) (lane G work k) h in
      let u = some.0 in
      let follows = some.1 in
      let first = registers k below h u follows in
      let second = steps k below h u follows in
      record {
        registers = λ y b row rank wide. second.0 _ (first.1 y row.0 row.1 rank b wide) ∙ follows.registers y b row rank wide;
        steps = λ s row. second.1 s row.0 row.1 ∙ follows.steps s row;
        inputs = λ p low. second.0 p (first.0 p (sym (follows.inputs p low))) ∙ follows.inputs p low;
        others = λ p high. second.0 p (first.0 p (sym (follows.others p high))) ∙ follows.others p high;
      }
