-- What the targets of a statement take of its value. Assumes nothing.
use Rattle.std.proofs.Common.{◌≡◌, ℕ, ◌+◌, ◌-◌, ◌<◌, ◌≤◌, cond, ◌==◌, List, length, get_or, ap, ap₂, ◌∙◌, sym, subst, ⊎_elim, arith}
use Rattle.std.proofs.Math.ListN.{set}
use Rattle.std.proofs.lemmas.Bool.{cases_eq}
use Rattle.std.proofs.lemmas.List.{length-set}
use Rattle.database.specs.Rows.{Database, no_target, target}
use Rattle.control.specs.Points.{sum_up_to, target_bits, offset}
use Rattle.control.specs.Usable.{Usable}
use Rattle.settling.proofs.UsableRows.{row_is, counted_here, counted_elsewhere}
use Rattle.design.specs.Derived.{in_row}
use Rattle.design.proofs.BitCounts.{sum_more, sum_zero}
use Rattle.design.proofs.Slots.{written, unwritten}
use Rattle.design.proofs.Bounds.{bounded, takes_few}

-- the bits that the targets of a statement take, of the first n
abbrev pub taken_of : Database → ℕ → ℕ → ℕ
taken_of d s n = sum_up_to (λ i. cond ((target d (i + 1)).statement == s) (target_bits d (i + 1)) 0) n

module _ (d : Database) where
  -- the targets that were passed have their offsets, and of each statement it is known how many bits they take
  pub record Taken (starts totals : List ℕ) (n : ℕ) : Type 0 where
    pub targets : length starts ≡ 512
    pub statements : length totals ≡ 256
    pub offsets : (t : ℕ) → 1 ≤ t → t ≤ n → in_row starts t ≡ offset d t
    pub taken : (s : ℕ) → 1 ≤ s → s ≤ 256 → in_row totals s ≡ taken_of d s n

  pub none_taken : (starts totals : List ℕ) → length starts ≡ 512 → length totals ≡ 256 → ((s : ℕ) → s < 256 → get_or totals s 0 ≡ 0) → Taken starts totals 0
  none_taken starts totals long wide zeros = record {
    targets = long;
    statements = wide;
    offsets = λ t one h. absurd (omega arith);
    taken = λ s one h. zeros (s - 1) (omega arith) ∙ sym (sum_zero _);
  }

  module _ (u : Usable d) (i : ℕ) (h : i < length d.targets) (starts totals : List ℕ) (s : Taken starts totals i) where
    abbrev own : ℕ
    own = (get_or d.targets i no_target).statement

    abbrev bits : ℕ
    bits = (get_or d.targets i no_target).last - (get_or d.targets i no_target).first + 1

    own_is : (target d (i + 1)).statement ≡ own
    own_is = ap (λ x. x.statement) (row_is no_target d.targets i)

    bits_are : target_bits d (i + 1) ≡ bits
    bits_are = ap (λ x. x.last - x.first + 1) (row_is no_target d.targets i)

    -- where this target begins
    begins : get_or totals (own - 1) 0 ≡ offset d (i + 1)
    unfolding offset
    begins =
        let b = bounded d u i h in
        let at : i + 1 - 1 ≡ i = omega arith in
        s.taken own b.first_statement b.last_statement ∙ ap₂ (taken_of d) (sym own_is) (sym at)

    pub room : get_or totals (own - 1) 0 + bits ≤ 32
    room = omega (arith, takes_few d u i h, begins, bits_are)

    -- one more target
    turn : Taken (set starts i (get_or totals (own - 1) 0)) (set totals (own - 1) (get_or totals (own - 1) 0 + bits)) (i + 1)
    turn =
        let b = bounded d u i h in
        let few = u.few_targets in
        let long = s.targets in
        let wide = s.statements in
        record {
          targets = length-set starts i (get_or totals (own - 1) 0) ∙ long;
          statements = length-set totals (own - 1) (get_or totals (own - 1) 0 + bits) ∙ wide;
          offsets = λ t one l.
              ⊎_elim
              (λ is. written starts i _ t (omega arith) is ∙ begins ∙ ap (offset d) (sym is))
              (λ ne. unwritten starts i _ t one ne ∙ s.offsets t one (omega (arith, ne)))
              (cases_eq t (i + 1));
          taken = λ n one l.
              ⊎_elim
              (λ is. written totals (own - 1) _ n (omega arith) (omega arith) ∙ omega (arith, sum_more (λ j. cond ((target d (j + 1)).statement == n) (target_bits d (j + 1)) 0) i, counted_here (target d (i + 1)).statement n (target_bits d (i + 1)) (own_is ∙ sym is), bits_are, s.taken n one l, ap (in_row totals) is))
              (λ ne. unwritten totals (own - 1) _ n one (λ e. ne (omega arith)) ∙ omega (arith, sum_more (λ j. cond ((target d (j + 1)).statement == n) (target_bits d (j + 1)) 0) i, counted_elsewhere (target d (i + 1)).statement n (target_bits d (i + 1)) (λ e. ne (sym e ∙ own_is)), s.taken n one l))
              (cases_eq n own);
        }

    pub taken_turn : (first many : ℕ) (more : List ℕ) → many ≡ bits → first ≡ in_row totals own → more ≡ set totals (own - 1) (in_row totals own + many) → Taken (set starts i first) more (i + 1)
    taken_turn first many more counted told written =
        subst (λ m. Taken (set starts i m) more (i + 1)) (sym told)
        (subst (λ l. Taken (set starts i (in_row totals own)) l (i + 1)) (sym (written ∙ ap (λ n. set totals (own - 1) (in_row totals own + n)) counted)) turn)
