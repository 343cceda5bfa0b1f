-- What stands behind a statement. Assumes nothing.
use Rattle.std.proofs.Common.{◌≡◌, ℕ, ◌+◌, ◌<◌, ◌≤◌, Bool, List, [], ◌∷◌, length, get_or, drop, ◌==◌, All, sum_by, sym, ap, subst, arith}
use Rattle.std.proofs.lemmas.Bool.Decides.{nat_tests}
use Rattle.std.proofs.lemmas.List.{nil_from_length, at_drop_more, at_drop_all}
use Rattle.std.proofs.lemmas.List.Elements.{All-contains, Contains-get_or}
use Rattle.database.specs.declared.rows.StatementRow.{StatementRow}
use Rattle.database.specs.declared.rows.TargetRow.{TargetRow}
use Rattle.database.specs.Rows.{Database, no_statement, node}
use Rattle.database.specs.Soundness.{SideSound, TargetsLaid, target_width}
use Rattle.control.specs.Deciding.{Decides}
use Rattle.inspect_layout.specs.Inner.{Ends, Front, InOrder}
use Rattle.inspect_layout.proofs.Deciding.{decide, decides_as}
use Rattle.inspect_layout.proofs.Fronts.{one_front, ends_behind}

-- a side is sound where its targets are as wide as the value and each keeps the order of buses
module _ (d : Database) (s : StatementRow) (own : List TargetRow) where
  side_order : SideSound d s own → All (InOrder d s.value) own
  side_order side = λ k none h. side.order (get_or own k none) (Contains-get_or own k none h)

  pub side_is : (b : Bool) → sum_by target_width own ≡ (node d s.value).width → Decides b (All (InOrder d s.value) own) → Decides b (SideSound d s own)
  side_is b w = decides_as b (λ all. record { wide = w; order = λ t c. All-contains (InOrder d s.value) own t all c }) side_order

-- what is laid for later statements begins with a target of another
of_others : (d : Database) (n m : ℕ) (ss : List StatementRow) (targets : List TargetRow) → n < m → TargetsLaid d m ss targets → Ends (λ t. t.statement) n targets
of_others d n m [] targets h e = subst (Ends (λ t. t.statement) n) (sym e) tt
of_others d n m (s ∷ ss) targets h (own, others, e, a, side, rest) =
    let other : m ≡ n → ⊥ = λ g. omega arith in
    subst (Ends (λ t. t.statement) n) (sym e) (ends_behind (λ t. t.statement) n m own others other a (of_others d n (m + 1) ss others (omega arith) rest))

-- where a statement's own targets are split off, what is laid is laid so
module _ (d : Database) (n : ℕ) (s : StatementRow) (ss : List StatementRow) (targets own others : List TargetRow) (f : Front (λ t. t.statement) n targets own others) where
  parts : TargetsLaid d n (s ∷ ss) targets → SideSound d s own × TargetsLaid d (n + 1) ss others
  parts (own', others', e, a, side, rest) =
      let (p, q) = one_front (λ t. t.statement) n (record { whole = e; belong = a; ends = of_others d n (n + 1) ss others' (omega arith) rest }) f in
      (subst (SideSound d s) p side, subst (TargetsLaid d (n + 1) ss) q rest)

  whole : SideSound d s own → TargetsLaid d (n + 1) ss others → TargetsLaid d n (s ∷ ss) targets
  whole side rest = (own, others, f.whole, f.belong, side, rest)

no_rows : (targets : List TargetRow) → Decides (length targets == 0) (targets ≡ [])
no_rows targets = decide (length targets == 0) (λ t. nil_from_length targets (grind (arith, nat_tests))) (λ e. ap (λ ts. length ts == 0) e)

-- one statement more, and the end
module _ (d : Database) (i : ℕ) (targets : List TargetRow) where
  module _ (own others : List TargetRow) (h : i < length d.statements) (f : Front (λ t. t.statement) (i + 1) targets own others) where
    pub statement_turn : (b : Bool) → SideSound d (get_or d.statements i no_statement) own → Decides b (TargetsLaid d (i + 1 + 1) (drop (i + 1) d.statements) others) → Decides b (TargetsLaid d (i + 1) (drop i d.statements) targets)
    statement_turn b side laid =
        let s = get_or d.statements i no_statement in
        let rest = drop (i + 1) d.statements in
        subst (λ ss. Decides b (TargetsLaid d (i + 1) ss targets)) (sym (at_drop_more (λ ss. ss) d.statements i no_statement h))
        (decides_as b (whole d (i + 1) s rest targets own others f side) (λ l. (parts d (i + 1) s rest targets own others f l).1) laid)

    pub statement_stops : (SideSound d (get_or d.statements i no_statement) own → ⊥) → TargetsLaid d (i + 1) (drop i d.statements) targets → ⊥
    statement_stops not =
        let s = get_or d.statements i no_statement in
        let rest = drop (i + 1) d.statements in
        subst (λ ss. TargetsLaid d (i + 1) ss targets → ⊥) (sym (at_drop_more (λ ss. ss) d.statements i no_statement h))
        (λ l. not (parts d (i + 1) s rest targets own others f l).0)

  pub statements_end : (b : Bool) → length d.statements ≤ i → b ≡ (length targets == 0) → Decides b (TargetsLaid d (i + 1) (drop i d.statements) targets)
  statements_end b h e =
      subst (λ ss. Decides b (TargetsLaid d (i + 1) ss targets)) (sym (at_drop_all (λ ss. ss) d.statements i h))
      (subst (λ t. Decides t (targets ≡ [])) (sym e) (no_rows targets))
