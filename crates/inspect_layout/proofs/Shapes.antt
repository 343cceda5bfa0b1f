-- What the shape of the last row says of an expression. Assumes nothing.
use Rattle.std.proofs.Common.{◌≡◌, ℕ, zero, suc, ◌+◌, ◌-◌, ◌<◌, Bool, false, nat_eq, List, [], ◌∷◌, map, Option, Some, None, sym, refl, ap, ◌∙◌, subst, arith}
use Rattle.std.proofs.lemmas.Bool.{eq-eqb}
use Rattle.std.proofs.lemmas.Bool.Decides.{nat_tests}
use Rattle.least.specs.Each.{row_at}
use Rattle.database.specs.declared.codes.NodeSign.{NodeSign}
use Rattle.database.specs.declared.rows.NodeRow.{NodeRow}
use Rattle.database.specs.Codes.{sign_of}
use Rattle.database.specs.Rows.{Database, no_node, node}
use Rattle.database.specs.Expressions.{Shape, shape, shape_at, shape_by, row_shape, shapes, Expression, leaf, unary, binary}
use Rattle.inspect_layout.specs.declared.expressions.Last.TheVariants.{Leaf, Unary, Binary}
use Rattle.control.specs.Deciding.{Decides}
use Rattle.inspect_layout.specs.Inner.{LastOfShape}
use Rattle.inspect_layout.proofs.Deciding.{decide, decides_as, decides_part}

-- shapes are the same only column by column
same_option : (m n : ℕ) → Some m ≡ Some n → m ≡ n
same_option m n e = cc

pub same_shape : (m n a b c d : ℕ) → shape m a b ≡ shape n c d → (m ≡ n) × (a ≡ c) × (b ≡ d)
same_shape m n a b c d e = (same_option m n (ap (λ x. x.operands) e), ap (λ x. x.left) e, ap (λ x. x.right) e)

-- the shape of a row that is a node, by its columns
by_sign : (o : Option NodeSign) (x : NodeRow) (n : ℕ) → (shape_by o x).operands ≡ Some n → shape_by o x ≡ shape n x.left x.right
by_sign None x n e = cc
by_sign (Some s) x n e = ap (λ o. record { operands = o; left = x.left; right = x.right }) e

pub by_columns : (x : NodeRow) (n : ℕ) → (row_shape x).operands ≡ Some n → row_shape x ≡ shape n x.left x.right
by_columns x n e = by_sign (sign_of x.sign) x n e

-- the last row of an expression, where it is a leaf, a node over one operand, a node over two; and there are no others
module _ {sh : List Shape} {before root : ℕ} where
  pub leaf_only : (a b : ℕ) → Expression sh before root → shape_at sh root ≡ shape 0 a b → (root ≡ before + 1) × (a ≡ 0) × (b ≡ 0)
  leaf_only a b (leaf e s) t = let (_, f, g) = same_shape 0 0 0 0 a b (sym s ∙ t) in (e, sym f, sym g)
  leaf_only a b (unary c e s x) t = let (k, _, _) = same_shape 1 0 c 0 a b (sym s ∙ t) in absurd (omega arith)
  leaf_only a b (binary c d e s x y) t = let (k, _, _) = same_shape 2 0 c d a b (sym s ∙ t) in absurd (omega arith)

  pub unary_only : (a b : ℕ) → Expression sh before root → shape_at sh root ≡ shape 1 a b → (root ≡ a + 1) × (b ≡ 0) × Expression sh before a
  unary_only a b (leaf e s) t = let (k, _, _) = same_shape 0 1 0 0 a b (sym s ∙ t) in absurd (omega arith)
  unary_only a b (unary c e s x) t = let (_, f, g) = same_shape 1 1 c 0 a b (sym s ∙ t) in (e ∙ ap (λ n. n + 1) f, sym g, subst (Expression sh before) f x)
  unary_only a b (binary c d e s x y) t = let (k, _, _) = same_shape 2 1 c d a b (sym s ∙ t) in absurd (omega arith)

  pub binary_only : (a b : ℕ) → Expression sh before root → shape_at sh root ≡ shape 2 a b → (root ≡ b + 1) × Expression sh before a × Expression sh a b
  binary_only a b (leaf e s) t = let (k, _, _) = same_shape 0 2 0 0 a b (sym s ∙ t) in absurd (omega arith)
  binary_only a b (unary c e s x) t = let (k, _, _) = same_shape 1 2 c 0 a b (sym s ∙ t) in absurd (omega arith)
  binary_only a b (binary c d e s x y) t = let (_, f, g) = same_shape 2 2 c d a b (sym s ∙ t) in
      (e ∙ ap (λ n. n + 1) g, subst (Expression sh before) f x, subst (Expression sh a) g (subst (λ n. Expression sh n d) f y))

-- an expression has a row or more
pub expression_order : {sh : List Shape} {before root : ℕ} → Expression sh before root → before < root
expression_order (leaf e s) = omega arith
expression_order (unary a e s x) = let h = expression_order x in omega arith
expression_order (binary a b e s x y) = let h = expression_order x in let k = expression_order y in omega arith

-- a node over one operand or two that does not stand right behind them is the last of no expression
pub no_unary : (x : NodeRow) (root end : ℕ) → end ≡ root - 1 → (row_shape x).operands ≡ Some 1 → ((x.left ≡ end) × (x.right ≡ 0) → ⊥) → (sh : List Shape) (before : ℕ) → shape_at sh root ≡ row_shape x → Expression sh before root → ⊥
no_unary x root end f k not sh before t e =
    let (g, r, h) = unary_only x.left x.right e (t ∙ by_columns x 1 k) in not (omega arith, r)

pub no_binary : (x : NodeRow) (root end : ℕ) → end ≡ root - 1 → (row_shape x).operands ≡ Some 2 → ((x.left < end) × (x.right ≡ end) → ⊥) → (sh : List Shape) (before : ℕ) → shape_at sh root ≡ row_shape x → Expression sh before root → ⊥
no_binary x root end f k not sh before t e =
    let (g, p, q) = binary_only x.left x.right e (t ∙ by_columns x 2 k) in
    let o = expression_order q in not (omega arith, omega arith)

-- the shape of the row of that number
shape_row : (xs : List NodeRow) (n : ℕ) → shape_at (map row_shape xs) n ≡ row_shape (row_at no_node xs n)
shape_row xs zero = refl
shape_row [] (suc n) = refl
shape_row (x ∷ xs) (suc zero) = refl
shape_row (x ∷ xs) (suc (suc n)) = shape_row xs (suc n)

pub shape_of : (d : Database) (n : ℕ) (x : NodeRow) → x ≡ node d n → shape_at (shapes d) n ≡ row_shape x
shape_of d n x e = shape_row d.nodes n ∙ ap row_shape (sym e)

-- whether the rows up to one are those of an expression, by what that row is as the last
module _ (sh : List Shape) (before root : ℕ) (s : Shape) (is : shape_at sh root ≡ s) where
  pub leaf_decides : LastOfShape s root (Some Leaf) → Decides (nat_eq before (root - 1)) (Expression sh before root)
  leaf_decides l = decide (nat_eq before (root - 1))
      (λ t. let e : before ≡ root - 1 = grind (arith, nat_tests) in let f = l.0 in leaf (omega arith) (is ∙ l.1))
      (λ e. let (f, _, _) = leaf_only 0 0 e (is ∙ l.1) in let g : before ≡ root - 1 = omega arith in eq-eqb _ _ g)

  pub unary_decides : (b : Bool) → LastOfShape s root (Some Unary) → Decides b (Expression sh before (root - 1)) → Decides b (Expression sh before root)
  unary_decides b (end, e, l) d =
      let f : root - 1 ≡ end = omega arith in
      decides_as b (λ x. unary end e (is ∙ l) x) (λ x. let (_, _, y) = unary_only end 0 x (is ∙ l) in y) (subst (λ n. Decides b (Expression sh before n)) f d)

  pub binary_decides : (b : Bool) (left : ℕ) → LastOfShape s root (Some (Binary left)) → Expression sh before left → Decides b (Expression sh left (root - 1)) → Decides b (Expression sh before root)
  binary_decides b left (end, e, o, l) x d =
      let f : root - 1 ≡ end = omega arith in
      decides_as b (λ y. binary left end e (is ∙ l) x y) (λ y. let (_, _, z) = binary_only left end y (is ∙ l) in z) (subst (λ n. Decides b (Expression sh left n)) f d)

  pub binary_part : (b : Bool) (left : ℕ) → LastOfShape s root (Some (Binary left)) → b ≡ false → Decides b (Expression sh before left) → Decides b (Expression sh before root)
  binary_part b left (end, e, o, l) wrong d = decides_part b wrong (λ y. let (_, x, _) = binary_only left end y (is ∙ l) in x) d
