-- Nodes stand behind their operands, and what is made of those fits. Assumes nothing.
use Rattle.std.proofs.Common.{◌≡◌, ℕ, ◌+◌, ◌<◌, ◌≤◌, ⊎_elim, inl, inr, List, [], ◌∷◌, length, Option, Some, None, unwrap_or, sym, refl, subst, true≢false, arith}
use Rattle.std.proofs.lemmas.Bool.{cases_lt}
use Rattle.grammar.specs.declared.draft.Class.{Class}
use Rattle.grammar.specs.declared.draft.Class.TheVariants.{Input, Output, Memory, Bus}
use Rattle.symbols.specs.declared.references.Standing.TheVariants.{Read}
use Rattle.least.specs.Each.{IsRow}
use Rattle.database.specs.declared.codes.NodeSign.{NodeSign}
use Rattle.database.specs.declared.codes.NodeSign.TheVariants.{Name, Constant, Comma, And, Or, Xor, Not, AndReduce, OrReduce, XorReduce}
use Rattle.database.specs.declared.rows.NodeRow.{NodeRow}
use Rattle.database.specs.Codes.{class_of, sign_of}
use Rattle.database.specs.Expressions.{Shape, no_shape, shape_at, Expression, leaf, unary, binary, Expressions, shape_by, row_shape, shapes}
use Rattle.database.specs.Rows.{Database, no_node, node, symbol}
use Rattle.database.specs.Soundness.{IsWidth, ClassStands, Joins, NodeBy, NodeSound, root}
use Rattle.control.specs.Points.{rank}
use Rattle.control.specs.Usable.{Fits, MadeBy, UsableNode}
use Rattle.settling.proofs.UsableRows.{row_mapped}

-- the operands of a node of that shape, in row n, stand before it, and as many are there as it takes
pub record Behind (n : ℕ) (s : Shape) : Type 0 where
  pub left : s.left < n
  pub right : s.right < n
  pub one : 1 ≤ unwrap_or s.operands 0 → 1 ≤ s.left
  pub two : 2 ≤ unwrap_or s.operands 0 → 1 ≤ s.right

-- the rows behind `before`, up to `end`, are so
pub record Within (shapes : List Shape) (before end : ℕ) : Type 0 where
  pub order : before ≤ end
  pub rows : (n : ℕ) → before < n → n ≤ end → Behind n (shape_at shapes n)

none_within : (shapes : List Shape) (before end : ℕ) → before ≡ end → Within shapes before end
none_within shapes before end e = record { order = omega arith; rows = λ n g h. absurd (omega arith) }

pub joined : {shapes : List Shape} (a b c : ℕ) → Within shapes a b → Within shapes b c → Within shapes a c
joined {shapes} a b c x y = let p = x.order in let q = y.order in record {
  order = omega arith;
  rows = λ n g h. ⊎_elim (λ l. y.rows n l h) (λ l. x.rows n g l) (cases_lt b n);
}

-- one row more
topped : {shapes : List Shape} (before last root : ℕ) → root ≡ last + 1 → Within shapes before last → Behind root (shape_at shapes root) → Within shapes before root
topped {shapes} before last root e x y = let p = x.order in record {
  order = omega arith;
  rows = λ n g h. ⊎_elim
      (λ l. let s : root ≡ n = omega arith in subst (λ m. Behind m (shape_at shapes m)) s y)
      (λ l. x.rows n g (omega arith)) (cases_lt last n);
}

-- an expression has a row
pub expression_order : {shapes : List Shape} {before root : ℕ} → Expression shapes before root → before < root
expression_order (leaf e s) = omega arith
expression_order (unary a e s x) = let z = expression_order x in omega arith
expression_order (binary a b e s x y) = let z = expression_order x in let w = expression_order y in omega arith

expression_within : (shapes : List Shape) (before root : ℕ) → Expression shapes before root → Within shapes before root
expression_within shapes before root (leaf e s) =
    topped before before root e (none_within shapes before before refl)
    (subst (Behind root) (sym s) (record { left = omega arith; right = omega arith; one = λ h. absurd (omega arith); two = λ h. absurd (omega arith) }))
expression_within shapes before root (unary a e s x) =
    let z = expression_order x in
    topped before a root e (expression_within shapes before a x)
    (subst (Behind root) (sym s) (record { left = omega arith; right = omega arith; one = λ h. omega arith; two = λ h. absurd (omega arith) }))
expression_within shapes before root (binary a b e s x y) =
    let z = expression_order x in
    let w = expression_order y in
    topped before b root e (joined before a b (expression_within shapes before a x) (expression_within shapes a b y))
    (subst (Behind root) (sym s) (record { left = omega arith; right = omega arith; one = λ h. omega arith; two = λ h. omega arith }))

pub expressions_within : (shapes : List Shape) (before : ℕ) (roots : List ℕ) (end : ℕ) → Expressions shapes before roots end → Within shapes before end
expressions_within shapes before [] end e = none_within shapes before end e
expressions_within shapes before (r ∷ roots) end x = joined before r end (expression_within shapes before r x.0) (expressions_within shapes r roots end x.1)

-- a symbol that can be read has a class before outputs
readable : (c : Option Class) → ClassStands Read c → rank c ≤ 3
readable None h = absurd h
readable (Some Input) h = omega arith
readable (Some Output) h = absurd (true≢false (sym h))
readable (Some Memory) h = omega arith
readable (Some Bus) h = omega arith

-- sides that are joined fit
fits : (a b width : ℕ) → 1 ≤ a → 1 ≤ b → Joins a b width → (¬ (a ≡ 1) → a ≡ width) × (¬ (b ≡ 1) → b ≡ width)
fits a b width g h (inl e, w) = (λ n. omega arith, λ n. omega arith)
fits a b width g h (inr (inl e), w) = (λ n. absurd (n e), λ n. omega arith)
fits a b width g h (inr (inr e), w) = (λ n. omega arith, λ n. absurd (n e))

-- what a node is made of, by its operands that stand
module _ (d : Database) (n : ℕ) (most : n ≤ length d.nodes) (wide : (m : ℕ) → IsRow d.nodes m → IsWidth (node d m).width) (x : NodeRow) where
  operand : (m : ℕ) → 1 ≤ m → m < n → IsRow d.nodes m
  operand m g h = (g, omega arith)

  pair : (a b : ℕ) → 1 ≤ a → a < n → 1 ≤ b → b < n → Joins (node d a).width (node d b).width x.width → IsRow d.nodes a × IsRow d.nodes b × Fits d x a × Fits d x b
  pair a b g h k l j =
      let p = operand a g h in
      let q = operand b k l in
      let f = fits (node d a).width (node d b).width x.width (wide a p).0 (wide b q).0 j in
      (p, q, f.0, f.1)

  made : (o : Option NodeSign) → NodeBy o d x (node d x.left).width (node d x.right).width → Behind n (shape_by o x) → MadeBy o d x
  made None k h = k
  made (Some Name) k h = ((k.0).there, readable (class_of (symbol d x.symbol).class) (k.0).stands, (k.0).forward, (k.0).within, k.1)
  made (Some Constant) k h = k.1
  made (Some Comma) k h = (operand x.left (h.one (omega arith)) h.left, operand x.right (h.two (omega arith)) h.right, k.1)
  made (Some And) k h = pair x.left x.right (h.one (omega arith)) h.left (h.two (omega arith)) h.right k.1
  made (Some Or) k h = pair x.left x.right (h.one (omega arith)) h.left (h.two (omega arith)) h.right k.1
  made (Some Xor) k h = pair x.left x.right (h.one (omega arith)) h.left (h.two (omega arith)) h.right k.1
  made (Some Not) k h = (operand x.left (h.one (omega arith)) h.left, k.1)
  made (Some AndReduce) k h = (operand x.left (h.one (omega arith)) h.left, k.1)
  made (Some OrReduce) k h = (operand x.left (h.one (omega arith)) h.left, k.1)
  made (Some XorReduce) k h = (operand x.left (h.one (omega arith)) h.left, k.1)

  -- the columns of operands stand before the row
  columns : (o : Option NodeSign) → NodeBy o d x (node d x.left).width (node d x.right).width → Behind n (shape_by o x) → (x.left < n) × (x.right < n)
  columns None k h = absurd k
  columns (Some s) k h = (h.left, h.right)

pub usable_node : (d : Database) → ((m : ℕ) → IsRow d.nodes m → NodeSound d (node d m)) → Within (shapes d) 0 (length d.nodes) → (n : ℕ) → IsRow d.nodes n → UsableNode d n
usable_node d sound within n h =
    let x : NodeRow = node d n in
    let kept = (sound n h).kept in
    let behind : Behind n (row_shape x) = subst (Behind n) (row_mapped row_shape d.nodes n no_node no_shape h) (within.rows n (let z = h.0 in omega arith) h.1) in
    let wide : (m : ℕ) → IsRow d.nodes m → IsWidth (node d m).width = λ m r. (sound m r).width in
    let stand = columns d n h.1 wide x (sign_of x.sign) kept behind in
    record { width = (sound n h).width; left = stand.0; right = stand.1; made = made d n h.1 wide x (sign_of x.sign) kept behind }
