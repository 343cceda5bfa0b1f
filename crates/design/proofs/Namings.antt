-- The targets that name a symbol, one behind the other. Assumes nothing.
use Rattle.std.proofs.Common.{◌≡◌, ℕ, ◌+◌, ◌-◌, ◌<◌, ◌≤◌, List, length, get_or, ap, ◌∙◌, sym, subst, ⊎_elim, arith}
use Rattle.std.proofs.Math.ListN.{set}
use Rattle.std.proofs.lemmas.Bool.{cases_eq}
use Rattle.std.proofs.lemmas.List.{length-set}
use Rattle.least.specs.Each.{IsRow}
use Rattle.database.specs.Rows.{Database, no_target, target}
use Rattle.control.specs.Usable.{Usable}
use Rattle.settling.proofs.UsableRows.{row_is}
use Rattle.design.specs.Derived.{FirstNaming, in_row}
use Rattle.design.proofs.Slots.{written, unwritten}
use Rattle.design.proofs.Bounds.{Bounded, bounded}

module _ (d : Database) where
  -- no target stands behind all
  no_more : (y from : ℕ) → length d.targets < from → FirstNaming d y from 0
  no_more y from h = record {
    none = λ e t behind row named. let last = row.1 in absurd (omega arith);
    from_there = λ one. absurd (omega arith);
    there = omega arith;
    names = λ one. absurd (omega arith);
    first = λ one. absurd (omega arith);
  }

  -- a target names the symbol
  here : (y t : ℕ) → IsRow d.targets t → (target d t).symbol ≡ y → FirstNaming d y t t
  here y t row named = record {
    none = λ e s behind other. let one = row.0 in absurd (omega arith);
    from_there = λ one. omega arith;
    there = row.1;
    names = λ one. named;
    first = λ one s behind ahead. absurd (omega arith);
  }

  -- a target does not name it
  passed : (y t n : ℕ) → FirstNaming d y (t + 1) n → ¬ ((target d t).symbol ≡ y) → FirstNaming d y t n
  passed y t n f other = record {
    none = λ e s behind row. ⊎_elim (λ is. subst (λ s. ¬ ((target d s).symbol ≡ y)) (sym is) other) (λ ne. f.none e s (omega (arith, ne)) row) (cases_eq s t);
    from_there = λ one. let z = f.from_there one in omega arith;
    there = f.there;
    names = f.names;
    first = λ one s behind ahead. ⊎_elim (λ is. subst (λ s. ¬ ((target d s).symbol ≡ y)) (sym is) other) (λ ne. f.first one s (omega (arith, ne)) ahead) (cases_eq s t);
  }

  -- of each symbol the first target behind the first n that names it, and of each of those targets the next
  pub record Linked (heads links : List ℕ) (n : ℕ) : Type 0 where
    pub symbols : length heads ≡ 64
    pub targets : length links ≡ 512
    pub firsts : (y : ℕ) → 1 ≤ y → y ≤ 64 → FirstNaming d y (n + 1) (in_row heads y)
    pub nexts : (t : ℕ) → n < t → t ≤ length d.targets → FirstNaming d (target d t).symbol (t + 1) (in_row links t)

  pub none_linked : (heads links : List ℕ) → length heads ≡ 64 → length links ≡ 512 → ((s : ℕ) → s < 64 → get_or heads s 0 ≡ 0) → Linked heads links (length d.targets)
  none_linked heads links long wide zeros = record {
    symbols = long;
    targets = wide;
    firsts = λ y one h. subst (FirstNaming d y (length d.targets + 1)) (sym (zeros (y - 1) (omega arith))) (no_more y (length d.targets + 1) (omega arith));
    nexts = λ t behind l. absurd (omega arith);
  }

  module _ (u : Usable d) (n : ℕ) (some : 0 < n) (h : n ≤ length d.targets) (heads links : List ℕ) (s : Linked heads links n) where
    abbrev own : ℕ
    own = (get_or d.targets (n - 1) no_target).symbol

    at : n - 1 + 1 ≡ n
    at = omega arith

    own_is : (target d n).symbol ≡ own
    own_is = ap (λ m. (target d m).symbol) (sym at) ∙ ap (λ x. x.symbol) (row_is no_target d.targets (n - 1))

    -- one target more, from behind
    turn : Linked (set heads (own - 1) (n - 1 + 1)) (set links (n - 1) (get_or heads (own - 1) 0)) (n - 1)
    turn =
        let b : Bounded (get_or d.targets (n - 1) no_target) = bounded d u (n - 1) (omega arith) in
        let few = u.few_targets in
        let long = s.symbols in
        let wide = s.targets in
        record {
          symbols = length-set heads (own - 1) (n - 1 + 1) ∙ long;
          targets = length-set links (n - 1) (get_or heads (own - 1) 0) ∙ wide;
          firsts = λ y one l.
              subst (λ m. FirstNaming d y m (in_row (set heads (own - 1) (n - 1 + 1)) y)) (sym at)
              (⊎_elim
              (λ is. subst (FirstNaming d y n) (sym (written heads (own - 1) (n - 1 + 1) y (omega arith) (omega arith) ∙ at)) (here y n (omega arith, h) (own_is ∙ sym is)))
              (λ ne. subst (FirstNaming d y n) (sym (unwritten heads (own - 1) (n - 1 + 1) y one (λ e. ne (omega arith)))) (passed y n (in_row heads y) (s.firsts y one l) (λ e. ne (sym e ∙ own_is))))
              (cases_eq y own));
          nexts = λ t behind l.
              ⊎_elim
              (λ is.
              subst (λ m. FirstNaming d (target d m).symbol (m + 1) (in_row (set links (n - 1) (get_or heads (own - 1) 0)) m)) (sym is)
              (subst (FirstNaming d (target d n).symbol (n + 1)) (sym (written links (n - 1) (get_or heads (own - 1) 0) n (omega arith) (sym at)))
              (subst (λ y. FirstNaming d y (n + 1) (in_row heads own)) (sym own_is) (s.firsts own b.first_symbol b.last_symbol))))
              (λ ne. subst (FirstNaming d (target d t).symbol (t + 1)) (sym (unwritten links (n - 1) (get_or heads (own - 1) 0) t (omega arith) (λ e. ne (omega arith)))) (s.nexts t (omega (arith, ne)) l))
              (cases_eq t n);
        }

    pub linked_turn : (next : ℕ) (more : List ℕ) → next ≡ in_row heads own → more ≡ set heads (own - 1) (n - 1 + 1) → Linked more (set links (n - 1) next) (n - 1)
    linked_turn next more told written =
        subst (λ m. Linked more (set links (n - 1) m) (n - 1)) (sym told) (subst (λ l. Linked l (set links (n - 1) (in_row heads own)) (n - 1)) (sym written) turn)
