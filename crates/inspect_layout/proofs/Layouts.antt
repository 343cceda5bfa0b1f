-- What stands behind a step. Assumes nothing.
use Rattle.std.proofs.Common.{◌≡◌, ℕ, ◌+◌, ◌<◌, ◌≤◌, Bool, List, [], ◌∷◌, ◌++◌, length, get_or, drop, Some, None, All, sym, subst, arith}
use Rattle.std.proofs.lemmas.List.{at_drop_more, at_drop_all}
use Rattle.std.proofs.lemmas.List.Elements.{All-head}
use Rattle.database.specs.declared.rows.ExitRow.{ExitRow}
use Rattle.database.specs.declared.rows.StatementRow.{StatementRow}
use Rattle.database.specs.declared.rows.StepRow.{StepRow}
use Rattle.database.specs.Codes.{step_kind}
use Rattle.database.specs.Rows.{Database, no_step}
use Rattle.database.specs.Expressions.{Expressions, shapes}
use Rattle.database.specs.Soundness.{HasExits, StepsLaid, root, statement_roots}
use Rattle.inspect_layout.specs.declared.steps.Behind.{Behind}
use Rattle.control.specs.Deciding.{Decides}
use Rattle.inspect_layout.specs.Inner.{Ends, Front, EndsAt, LaidFrom, Passed}
use Rattle.inspect_layout.proofs.Deciding.{decides_as}
use Rattle.inspect_layout.proofs.Fronts.{one_front, ends_behind}
use Rattle.inspect_layout.proofs.Roots.{one_end}

-- what is laid for later steps begins with a row of another
abbrev OfOthers : ℕ → List StatementRow → List ExitRow → Type 0
OfOthers n statements exits = Ends (λ s. s.step) n statements × Ends (λ e. e.left) n exits

of_none : (n : ℕ) (ss : List StatementRow) → 1 ≤ n → All (λ s. s.step ≡ 0) ss → Ends (λ s. s.step) n ss
of_none n [] h a = tt
of_none n (s ∷ ss) h a = λ e. let z = All-head (λ s. s.step ≡ 0) s ss a in absurd (omega arith)

of_others : (d : Database) (n m : ℕ) (xs : List StepRow) (statements : List StatementRow) (exits : List ExitRow) (before end : ℕ) → 1 ≤ n → n < m → StepsLaid d m xs statements exits before end → OfOthers n statements exits
of_others d n m [] statements exits before end h k (a, e, p) = (of_none n statements h a, subst (Ends (λ e. e.left) n) (sym e) tt)
of_others d n m (x ∷ xs) statements exits before end h k (own, others, e, a, left, more, f, b, has, between, p, rest) =
    let (s, t) = of_others d n (m + 1) xs others more between end h (omega arith) rest in
    let other : m ≡ n → ⊥ = λ g. omega arith in
    (subst (Ends (λ s. s.step) n) (sym e) (ends_behind (λ s. s.step) n m own others other a s), subst (Ends (λ e. e.left) n) (sym f) (ends_behind (λ e. e.left) n m left more other b t))

-- where a step's own rows are split off, what is laid is laid so
record Parts (d : Database) (n : ℕ) (x : StepRow) (xs : List StepRow) (own others : List StatementRow) (left more : List ExitRow) (before end : ℕ) : Type 0 where
  has : HasExits (step_kind x.kind) d x (length left)
  between : ℕ
  nodes : Expressions (shapes d) before (statement_roots own ++ root x.condition) between
  rest : StepsLaid d (n + 1) xs others more between end

module _ (d : Database) (n : ℕ) (x : StepRow) (xs : List StepRow) (statements own others : List StatementRow) (exits left more : List ExitRow) (before end : ℕ)
    (one : 1 ≤ n) (s : Front (λ s. s.step) n statements own others) (e : Front (λ e. e.left) n exits left more) where
  parts : StepsLaid d n (x ∷ xs) statements exits before end → Parts d n x xs own others left more before end
  parts (own', others', f, a, left', more', g, b, has, between, p, rest) =
      let (k, l) = of_others d n (n + 1) xs others' more' between end one (omega arith) rest in
      let (q, r) = one_front (λ s. s.step) n (record { whole = f; belong = a; ends = k }) s in
      let (t, u) = one_front (λ e. e.left) n (record { whole = g; belong = b; ends = l }) e in
      record {
        has = subst (λ es. HasExits (step_kind x.kind) d x (length es)) t has;
        between = between;
        nodes = subst (λ ss. Expressions (shapes d) before (statement_roots ss ++ root x.condition) between) q p;
        rest = subst (λ es. StepsLaid d (n + 1) xs others es between end) u (subst (λ ss. StepsLaid d (n + 1) xs ss more' between end) r rest);
      }

  whole : Parts d n x xs own others left more before end → StepsLaid d n (x ∷ xs) statements exits before end
  whole p = (own, others, s.whole, s.belong, left, more, e.whole, e.belong, p.has, p.between, p.nodes, p.rest)

-- what stands behind a step, by how its own rows are split off
module _ (d : Database) (n : ℕ) (x : StepRow) (here : Behind) (own others : List StatementRow) (left more : List ExitRow)
    (one : 1 ≤ n) (s : Front (λ s. s.step) n here.statements.now own others) (e : Front (λ e. e.left) n here.exits.now left more) where
  split : (xs : List StepRow) → LaidFrom d n (x ∷ xs) here → Parts d n x xs own others left more here.before (length d.nodes)
  split xs = parts d n x xs here.statements.now own others here.exits.now left more here.before (length d.nodes) one s e

  pub wrong_exits : (HasExits (step_kind x.kind) d x (length left) → ⊥) → Passed d n x here None
  wrong_exits not xs laid = not (split xs laid).has

  pub wrong_nodes : EndsAt (shapes d) here.before (statement_roots own ++ root x.condition) None → Passed d n x here None
  wrong_nodes not xs laid = let p = split xs laid in not p.between p.nodes

  pub passes : (behind : Behind) → behind.statements.now ≡ others → behind.exits.now ≡ more → HasExits (step_kind x.kind) d x (length left)
      → Expressions (shapes d) here.before (statement_roots own ++ root x.condition) behind.before → Passed d n x here (Some behind)
  passes behind f g has nodes xs = (
    λ laid. let p = split xs laid in
        subst (λ m. StepsLaid d (n + 1) xs behind.statements.now behind.exits.now m (length d.nodes)) (one_end (shapes d) here.before p.between behind.before (statement_roots own ++ root x.condition) p.nodes nodes)
        (subst (λ es. StepsLaid d (n + 1) xs behind.statements.now es p.between (length d.nodes)) (sym g) (subst (λ ss. StepsLaid d (n + 1) xs ss more p.between (length d.nodes)) (sym f) p.rest)),
    λ laid. whole d n x xs here.statements.now own others here.exits.now left more here.before (length d.nodes) one s e (record {
      has = has;
      between = behind.before;
      nodes = nodes;
      rest = subst (λ es. StepsLaid d (n + 1) xs others es behind.before (length d.nodes)) g (subst (λ ss. StepsLaid d (n + 1) xs ss behind.exits.now behind.before (length d.nodes)) f laid);
    }),
  )

-- one step more, and the end
module _ (d : Database) (i : ℕ) (here : Behind) where
  pub step_turn : (behind : Behind) → i < length d.steps → (b : Bool) → Passed d (i + 1) (get_or d.steps i no_step) here (Some behind)
      → Decides b (LaidFrom d (i + 1 + 1) (drop (i + 1) d.steps) behind) → Decides b (LaidFrom d (i + 1) (drop i d.steps) here)
  step_turn behind h b p laid =
      subst (λ xs. Decides b (LaidFrom d (i + 1) xs here)) (sym (at_drop_more (λ xs. xs) d.steps i no_step h))
      (decides_as b (p (drop (i + 1) d.steps)).1 (p (drop (i + 1) d.steps)).0 laid)

  pub step_stops : i < length d.steps → Passed d (i + 1) (get_or d.steps i no_step) here None → LaidFrom d (i + 1) (drop i d.steps) here → ⊥
  step_stops h p = subst (λ xs. LaidFrom d (i + 1) xs here → ⊥) (sym (at_drop_more (λ xs. xs) d.steps i no_step h)) (p (drop (i + 1) d.steps))

  pub steps_end : length d.steps ≤ i → (b : Bool) → Decides b (LaidFrom d 0 [] here) → Decides b (LaidFrom d (i + 1) (drop i d.steps) here)
  steps_end h b laid = subst (λ xs. Decides b (LaidFrom d (i + 1) xs here)) (sym (at_drop_all (λ xs. xs) d.steps i h)) laid
