-- Where steps are laid, the operands of each node stand before it. Assumes nothing.
use Rattle.std.proofs.Common.{◌≡◌, ℕ, ◌+◌, ◌<◌, ◌≤◌, List, [], ◌∷◌, ◌++◌, length, refl, sym, ap, ◌∙◌, subst, ⊎_elim, arith}
use Rattle.std.proofs.lemmas.Bool.{cases_lt}
use Rattle.database.specs.declared.rows.ExitRow.{ExitRow}
use Rattle.database.specs.declared.rows.NodeRow.{NodeRow}
use Rattle.database.specs.declared.rows.StatementRow.{StatementRow}
use Rattle.database.specs.declared.rows.StepRow.{StepRow}
use Rattle.least.specs.Each.{IsRow}
use Rattle.database.specs.Rows.{Database, node}
use Rattle.database.specs.Expressions.{Shape, shape, shape_at, row_shape, shapes, Expression, leaf, unary, binary, Expressions}
use Rattle.database.specs.Soundness.{StepsLaid, root, statement_roots}
use Rattle.inspect_layout.specs.Layout.{StepsInOrder}
use Rattle.inspect_layout.specs.Inner.{OperandsFirst}
use Rattle.inspect_layout.proofs.Shapes.{same_shape, by_columns, shape_of, expression_order}

-- a row is a node, and its operands stand before it
record First (sh : List Shape) (n : ℕ) : Type 0 where
  count : ℕ
  left : ℕ
  right : ℕ
  is : shape_at sh n ≡ shape count left right
  before_left : left < n
  before_right : right < n

-- so it is of all rows from one place up to another
record AllFirst (sh : List Shape) (before end : ℕ) : Type 0 where
  order : before ≤ end
  rows : (n : ℕ) → before < n → n ≤ end → First sh n

module _ (sh : List Shape) where
  nowhere : (before end : ℕ) → before ≡ end → AllFirst sh before end
  nowhere before end e = record { order = omega arith; rows = λ n h k. absurd (omega arith) }

  joined : (a b c : ℕ) → AllFirst sh a b → AllFirst sh b c → AllFirst sh a c
  joined a b c x y = let p = x.order in let q = y.order in record {
    order = omega arith;
    rows = λ n h k. ⊎_elim (λ l. y.rows n l k) (λ l. x.rows n h l) (cases_lt b n);
  }

  -- one row more
  topped : (before end : ℕ) (count left right : ℕ) → AllFirst sh before end → shape_at sh (end + 1) ≡ shape count left right → left ≤ end → right ≤ end → AllFirst sh before (end + 1)
  topped before end count left right x e l r = let p = x.order in record {
    order = omega arith;
    rows = λ n h k. ⊎_elim
        (λ m. let s : n ≡ end + 1 = omega arith in record { count = count; left = left; right = right; is = ap (shape_at sh) s ∙ e; before_left = omega arith; before_right = omega arith })
        (λ m. x.rows n h m) (cases_lt end n);
  }

  expression_first : (before end : ℕ) → Expression sh before end → AllFirst sh before end
  expression_first before end (leaf e s) =
      subst (AllFirst sh before) (sym e) (topped before before 0 0 0 (nowhere before before refl) (ap (shape_at sh) (sym e) ∙ s) (omega arith) (omega arith))
  expression_first before end (unary a e s x) =
      subst (AllFirst sh before) (sym e) (topped before a 1 a 0 (expression_first before a x) (ap (shape_at sh) (sym e) ∙ s) (omega arith) (omega arith))
  expression_first before end (binary a b e s x y) =
      let o = expression_order y in
      subst (AllFirst sh before) (sym e) (topped before b 2 a b (joined before a b (expression_first before a x) (expression_first a b y)) (ap (shape_at sh) (sym e) ∙ s) (omega arith) (omega arith))

  expressions_first : (before end : ℕ) (roots : List ℕ) → Expressions sh before roots end → AllFirst sh before end
  expressions_first before end [] p = nowhere before end p
  expressions_first before end (r ∷ roots) p = joined before r end (expression_first before r p.0) (expressions_first r end roots p.1)

steps_first : (d : Database) (n : ℕ) (xs : List StepRow) (statements : List StatementRow) (exits : List ExitRow) (before end : ℕ) → StepsLaid d n xs statements exits before end → AllFirst (shapes d) before end
steps_first d n [] statements exits before end (a, e, p) = expressions_first (shapes d) before end (statement_roots statements) p
steps_first d n (x ∷ xs) statements exits before end (own, others, e, a, left, more, f, b, has, between, p, rest) =
    joined (shapes d) before between end (expressions_first (shapes d) before between (statement_roots own ++ root x.condition) p) (steps_first d (n + 1) xs others more between end rest)

-- what the shape of a row says of its columns
record Columns (x : NodeRow) (n : ℕ) : Type 0 where
  left : x.left < n
  right : x.right < n

columns : (d : Database) (n : ℕ) → First (shapes d) n → Columns (node d n) n
columns d n x =
    let e : row_shape (node d n) ≡ shape x.count x.left x.right = sym (shape_of d n (node d n) refl) ∙ x.is in
    let s = by_columns (node d n) x.count (ap (λ y. y.operands) e) in
    let (_, l, r) = same_shape x.count x.count (node d n).left (node d n).right x.left x.right (sym s ∙ e) in
    let p = x.before_left in let q = x.before_right in
    record { left = omega arith; right = omega arith }

pub operands_first : (d : Database) → StepsInOrder d → OperandsFirst d
operands_first d laid =
    let all = steps_first d 1 d.steps d.statements d.exits 0 (length d.nodes) laid in
    let at : (n : ℕ) → IsRow d.nodes n → Columns (node d n) n = λ n h. columns d n (all.rows n h.0 h.1) in
    record { left = λ n h. (at n h).left; right = λ n h. (at n h).right }
