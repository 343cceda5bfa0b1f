-- Buses in their order: what is read has its letters. Assumes nothing.
use Rattle.std.proofs.Common.{◌≡◌, ℕ, ◌+◌, ◌-◌, ◌<◌, ◌≤◌, Bool, true, false, cond, nat_le, ◌==◌, List, length, get_or, set, replicate, refl, sym, ap, ap₂, ◌∙◌, subst, ⊎_elim, arith}
use Rattle.std.proofs.lemmas.Bool.{cases_eq, cases_lt, eqb-true, eqb-false, leb-true, and_parts, true≢false}
use Rattle.std.proofs.lemmas.List.{get_or-set_other, get_or-replicate, get_or_past, length-replicate}
use Rattle.level.specs.declared.letter.Letter.{Letter}
use Rattle.level.specs.declared.letter.Letter.TheVariants.{Zero}
use Rattle.level.specs.Letters.{and_l, or_l}
use Rattle.least.specs.Each.{IsRow}
use Rattle.database.specs.Rows.{Database, statement, target, node}
use Rattle.database.specs.Soundness.{Reads, named, left, right}
use Rattle.control.specs.Points.{rank_of, point_of}
use Rattle.control.specs.Letters.{Letters}
use Rattle.control.specs.Rules.{guard, names, guarded, over_targets, driven, Settled}
use Rattle.control.specs.Usable.{Usable, MadeBy}
use Rattle.design.specs.Derived.{FirstNaming}
use Rattle.settling.proofs.Points.{ends_held}
use Rattle.evaluation.specs.Inner.{NodeRight, SymbolRight, StepLevelsRight, NodesRight, OutputsRight, HeldRight, Fed, Supplied, MarkedRight, Reached, Given, Sourced, targets_before}
use Rattle.evaluation.proofs.Rights.{join_same, cond_same, letter_same}
use Rattle.evaluation.proofs.Joins.{before_some, none_between}

-- what was right stays right
module _ (d : Database) (w xs ys : Letters) (keeps : (r : ℕ) → xs r ≡ w r → ys r ≡ w r) where
  pub marked_keeps : (filled : List Bool) → MarkedRight d filled w xs → MarkedRight d filled w ys
  marked_keeps filled m n row e b low = keeps _ (m n row e b low)

  pub fed_keeps : (n : ℕ) → Fed d w xs n → Fed d w ys n
  fed_keeps n f = record {
    symbol = λ e b h. keeps _ (f.symbol e b h);
    left = λ e b h. keeps _ (f.left e b h);
    right = λ e b h. keeps _ (f.right e b h);
  }

  pub reached_keeps : (y : ℕ) → Reached d w xs y → Reached d w ys y
  reached_keeps y r = record {
    steps = λ s row. keeps _ (r.steps s row);
    symbols = λ z row before b h. keeps _ (r.symbols z row before b h);
  }

  pub sourced_keeps : (y n : ℕ) → Sourced d w xs y n → Sourced d w ys y n
  sourced_keeps y n s t one low e = let g = s t one low e in record {
    condition = λ c b h. keeps _ (g.condition c b h);
    value = λ b h. keeps _ (g.value b h);
  }

  -- one node more, and one output
  pub nodes_more : (i : ℕ) → NodesRight d w xs i → NodeRight d w ys (i + 1) → NodesRight d w ys (i + 1)
  nodes_more i old new j one low =
      ⊎_elim (λ e. subst (NodeRight d w ys) (sym e) new) (λ ne b h. keeps _ (old j one (omega (arith, ne)) b h)) (cases_eq j (i + 1))

  pub outputs_more : (i : ℕ) → OutputsRight d w xs i → SymbolRight d w ys (i + 1) → OutputsRight d w ys (i + 1)
  outputs_more i old new j one low is =
      ⊎_elim (λ e. subst (SymbolRight d w ys) (sym e) new) (λ ne b h. keeps _ (old j one (omega (arith, ne)) is b h)) (cases_eq j (i + 1))

  -- the next target is reached
  pub sourced_more : (y n m : ℕ) → IsRow d.targets n → (target d n).symbol ≡ y → FirstNaming d (target d n).symbol (n + 1) m
      → Sourced d w xs y (targets_before d n) → Given d w ys n → Sourced d w ys y (targets_before d m)
  sourced_more y n m row is next old new t one low e =
      ⊎_elim
      (λ same. subst (Given d w ys) (sym same) new)
      (λ ne.
      ⊎_elim
      (λ before. sourced_keeps y (targets_before d n) old t one (omega (arith, before_some d y n row.0, ne)) e)
      (λ behind. absurd (none_between d y (n + 1) m (subst (λ v. FirstNaming d v (n + 1) m) is next) (omega arith) t (omega (arith, ne)) low e))
      (cases_lt t n))
      (cases_eq t n)

module _ (d : Database) (w xs : Letters) where
  -- a node that is marked has its letters
  pub marked_more : (filled : List Bool) (n : ℕ) → 1 ≤ n → MarkedRight d filled w xs → NodeRight d w xs n → MarkedRight d (set filled (n - 1) true) w xs
  marked_more filled n one m new j row e =
      ⊎_elim
      (λ same. subst (NodeRight d w xs) (sym same) new)
      (λ ne. m j row (sym (get_or-set_other filled (n - 1) (j - 1) true false (λ z. ne (omega arith))) ∙ e))
      (cases_eq j n)

  -- at first no node is marked
  pub none_marked : (m : ℕ) → MarkedRight d (replicate m false) w xs
  none_marked m n row e =
      let no : get_or (replicate m false) (n - 1) false ≡ false = ⊎_elim (λ l. get_or-replicate m (n - 1) false false l) (λ past. get_or_past (replicate m false) (n - 1) false (omega (arith, length-replicate m false))) (cases_lt (n - 1) m) in
      absurd (true≢false (sym e ∙ no))

  -- before the first target of a symbol there is none
  pub sourced_first : (y m : ℕ) → FirstNaming d y 1 m → Sourced d w xs y (targets_before d m)
  sourced_first y m first t one low e = absurd (none_between d y 1 m first (omega arith) t one low e)

  pub outputs_skip : (i : ℕ) → (rank_of d (i + 1) ≡ 4 → ⊥) → OutputsRight d w xs i → OutputsRight d w xs (i + 1)
  outputs_skip i other old j one low is =
      old j one (let ne : j ≡ i + 1 → ⊥ = λ e. other (ap (rank_of d) (sym e) ∙ is) in omega (arith, ne)) is

  -- one bus more, and a symbol that is none
  pub reached_more : (i : ℕ) → Reached d w xs (i + 1) → SymbolRight d w xs (i + 1) → Reached d w xs (i + 1 + 1)
  reached_more i r new = record {
    steps = r.steps;
    symbols = λ z row before.
        ⊎_elim
        (λ e. subst (SymbolRight d w xs) (sym e) new)
        (λ ne. r.symbols z row (λ high. let p = before high in (p.0, omega (arith, p.1, ne))))
        (cases_eq z (i + 1));
  }

  pub reached_skip : (i : ℕ) → (rank_of d (i + 1) ≡ 3 → ⊥) → Reached d w xs (i + 1) → Reached d w xs (i + 1 + 1)
  reached_skip i other r = record {
    steps = r.steps;
    symbols = λ z row before.
        r.symbols z row (λ high.
        let p = before high in
        let ne : z ≡ i + 1 → ⊥ = λ e. other (ap (rank_of d) (sym e) ∙ p.0) in
        (p.0, omega (arith, p.1, ne)));
  }

module _ (d : Database) (u : Usable d) where
  -- what a node reads is there, and is no output
  pub reads_within : {n z : ℕ} → Reads d n z → IsRow d.symbols z × (rank_of d z ≤ 3)
  reads_within {n} {z} (named row sign is) =
      let m = subst (λ s. MadeBy s d (node d n)) sign (u.nodes n row).made in
      subst (λ y. IsRow d.symbols y × (rank_of d y ≤ 3)) is (m.0, m.1)
  reads_within {n} {z} (left row r) = reads_within r
  reads_within {n} {z} (right row r) = reads_within r

  module _ (w xs : Letters) where
    -- with the held letters in their places the first bus is reached
    pub reached_first : HeldRight d w xs → Reached d w xs 1
    reached_first held = record {
      steps = held.steps;
      symbols = λ z row before b h.
          let low : rank_of d z < 3 = ⊎_elim (λ l. l) (λ high. absurd (omega (arith, (before high).1, row.0))) (cases_lt (rank_of d z) 3) in
          held.bits (point_of d z b) (omega (arith, ends_held d z row (omega arith)));
    }

    -- what a bus is given reads buses before it
    pub supplied : (y t : ℕ) → IsRow d.targets t → (target d t).symbol ≡ y → rank_of d y ≡ 3 → Reached d w xs y → Supplied d w xs (statement d (target d t).statement).value
    supplied y t row is bus reached z r =
        let within = reads_within r in
        let order = (u.targets t row).order (ap (rank_of d) is ∙ bus) z r in
        reached.symbols z within.0 (λ high. let three : rank_of d z ≡ 3 = omega (arith, within.1) in (three, subst (λ v. z < v) is (order three)))

    pub value_row : (t : ℕ) → IsRow d.targets t → IsRow d.nodes (statement d (target d t).statement).value
    value_row t row = (u.statements (target d t).statement (u.targets t row).row).value

    pub given_bus : (y t : ℕ) → IsRow d.targets t → (target d t).symbol ≡ y → rank_of d y ≡ 3 → NodeRight d w xs (statement d (target d t).statement).value → Given d w xs t
    given_bus y t row is bus value = record {
      condition = λ some. absurd (omega (arith, (u.targets t row).unconditional (ap (rank_of d) is ∙ bus)));
      value = value;
    }

    -- what is below a node, once its sides have their letters
    pub fed_below : (n : ℕ) → IsRow d.nodes n → Supplied d w xs n → (1 ≤ (node d n).left → NodeRight d w xs (node d n).left) → (1 ≤ (node d n).right → NodeRight d w xs (node d n).right) → Fed d w xs n
    fed_below n row s l r = record { symbol = λ e. s (node d n).symbol (named row e refl); left = l; right = r }

    pub fed_all : (n : ℕ) → IsRow d.nodes n → Reached d w xs (length d.symbols + 1) → NodesRight d w xs (n - 1) → Fed d w xs n
    fed_all n row reached nodes =
        let x = u.nodes n row in
        record {
          symbol = λ e.
              let m = subst (λ s. MadeBy s d (node d n)) e x.made in
              reached.symbols (node d n).symbol m.0 (λ high. (omega (arith, m.1), omega (arith, m.0.1)));
          left = λ p. nodes (node d n).left p (omega (arith, x.left));
          right = λ p. nodes (node d n).right p (omega (arith, x.right));
        }

    guard_same : (s : ℕ) → IsRow d.statements s → StepLevelsRight d w xs → (1 ≤ (statement d s).condition → NodeRight d w xs (statement d s).condition) → guard d xs s ≡ guard d w s
    guard_same s row steps condition =
        let x = u.statements s row in
        cond_same ((statement d s).step == 0) (λ e. refl)
        (λ has.
        let step = steps (statement d s).step (omega (arith, eqb-false (statement d s).step 0 has), x.step) in
        cond_same ((statement d s).condition == 0) (λ e. step)
        (λ is.
        let c : 1 ≤ (statement d s).condition = omega (arith, eqb-false (statement d s).condition 0 is) in
        ap₂ and_l step (condition c 0 (u.nodes (statement d s).condition (c, x.condition)).width.0)))

    over_same : (y b : ℕ) (f g : ℕ → Letter) (n : ℕ) → ((i : ℕ) → i < n → names d (i + 1) y b ≡ true → f (i + 1) ≡ g (i + 1)) → over_targets d y b f n ≡ over_targets d y b g n
    unfolding over_targets
    over_same y b f g n h =
        join_same or_l Zero (λ i. cond (names d (i + 1) y b) (f (i + 1)) Zero) (λ i. cond (names d (i + 1) y b) (g (i + 1)) Zero) n
        (λ i l. cond_same (names d (i + 1) y b) (h i l) (λ e. refl))

    -- the targets of a symbol give the same letters
    pub driven_same : (y b : ℕ) → StepLevelsRight d w xs → Sourced d w xs y (length d.targets) → driven d xs y b ≡ driven d w y b
    driven_same y b steps sourced =
        over_same y b (guarded d xs b) (guarded d w b) (length d.targets)
        (λ i l e.
        let t : ℕ = i + 1 in
        let p = and_parts ((target d t).symbol == y) _ e in
        let q = and_parts (nat_le (target d t).first b) (nat_le b (target d t).last) p.1 in
        let from : (target d t).first ≤ b = leb-true _ b q.0 in
        let to : b ≤ (target d t).last = leb-true b _ q.1 in
        let row : IsRow d.targets t = (omega arith, omega arith) in
        let x = u.targets t row in
        let g = sourced t row.0 row.1 (eqb-true _ y p.0) in
        ap₂ and_l (guard_same (target d t).statement x.row steps g.condition) (g.value _ (omega (arith, x.part))))

    pub sourced_all : (y : ℕ) → NodesRight d w xs (length d.nodes) → Sourced d w xs y (length d.targets)
    sourced_all y nodes t one low e =
        let s = u.statements (target d t).statement (u.targets t (one, low)).row in
        record { condition = λ c. nodes _ c s.condition; value = nodes _ s.value.0 s.value.1 }

    -- a table whose rows in use have the letters of a settled w is settled
    pub settled_right : (h : Letters) → Settled d h w → HeldRight d w xs → Reached d w xs (length d.symbols + 1) → NodesRight d w xs (length d.nodes) → OutputsRight d w xs (length d.symbols) → Settled d h xs
    settled_right h s held reached nodes outputs = record {
      held = λ p low. held.bits p low ∙ s.held p low;
      steps = λ n row. held.steps n row ∙ s.steps n row;
      nodes = λ n b row low.
          nodes n row.0 row.1 b low ∙ s.nodes n b row low
          ∙ sym (letter_same d w xs n b u row low (fed_all n row reached (λ j o l. nodes j o (omega (arith, row.1)))));
      driven = λ y b row high low.
          let right : SymbolRight d w xs y =
          ⊎_elim
          (λ e. outputs y row.0 row.1 e)
          (λ ne. reached.symbols y row (λ high. (omega (arith, ne, (u.symbols y row).last_class), omega (arith, row.1))))
          (cases_eq (rank_of d y) 4) in
          right b low ∙ s.driven y b row high low ∙ sym (driven_same y b held.steps (sourced_all y nodes));
    }
