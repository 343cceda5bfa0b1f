-- Where the operands of nodes stand: in the expression, and before the node. Assumes nothing.
use Rattle.std.proofs.Common.{◌≡◌, ℕ, ◌+◌, ◌<◌, ◌≤◌, ⊎_elim, List, [], ◌∷◌, map, length, Option, Some, None, sym, refl, subst, arith}
use Rattle.std.proofs.lemmas.Bool.{cases_lt}
use Rattle.grammar.specs.declared.draft.Form.{Form}
use Rattle.grammar.specs.declared.draft.Form.TheVariants.{Bits, Literal, Sized, Comma, Join, Not, Reduce}
use Rattle.grammar.specs.declared.draft.Node.{Node}
use Rattle.grammar.specs.declared.draft.Condition.{Condition}
use Rattle.grammar.specs.declared.draft.Statement.{Statement}
use Rattle.grammar.specs.declared.draft.Leaving.{Leaving}
use Rattle.grammar.specs.declared.draft.Leaving.TheVariants.{Next, Plain, Conditions, Dead}
use Rattle.grammar.specs.declared.draft.Step.{Step}
use Rattle.grammar.specs.declared.draft.Exit.{Exit}
use Rattle.grammar.specs.Drafts.{RowLists}
use Rattle.least.specs.Each.{IsRow, row_at}
use Rattle.database.specs.Expressions.{Shape, shape, no_shape, shape_at, Expression, leaf, unary, binary}
use Rattle.soundness.specs.Layout.{form_shape, node_shape, SideLaid, StatementLaid, StatementsLaid, LeavingLaid, DraftStepsLaid, Laid}
use Rattle.soundness.proofs.Nil.{row_mapped}
use Rattle.soundness.proofs.Places.{expression_order}
use Rattle.soundness.proofs.Widths.{some_same}

-- no node
abbrev pub empty_node : Node
empty_node = record { place = 0; driven = None; form = Literal 0 }

-- the operands of a node of that shape, in row n, are behind some row and before it
pub record Behind (before n : ℕ) (s : Shape) : Type 0 where
  pub left : 1 ≤ s.left → (before < s.left) × (s.left < n)
  pub right : 1 ≤ s.right → (before < s.right) × (s.right < n)
  pub one : s.operands ≡ Some 1 → 1 ≤ s.left
  pub two : s.operands ≡ Some 2 → (1 ≤ s.left) × (1 ≤ s.right)

behind_leaf : (before n : ℕ) → Behind before n (shape 0 0 0)
behind_leaf before n = record {
  left = λ h. absurd (omega arith);
  right = λ h. absurd (omega arith);
  one = λ e. absurd (let z : ◌≡◌ {A = ℕ} 0 1 = some_same 0 1 e in omega arith);
  two = λ e. absurd (let z : ◌≡◌ {A = ℕ} 0 2 = some_same 0 2 e in omega arith);
}

behind_unary : (before n a : ℕ) → before < a → a < n → Behind before n (shape 1 a 0)
behind_unary before n a g h = record {
  left = λ k. (g, h);
  right = λ k. absurd (omega arith);
  one = λ e. omega arith;
  two = λ e. absurd (let z : ◌≡◌ {A = ℕ} 1 2 = some_same 1 2 e in omega arith);
}

behind_binary : (before n a b : ℕ) → before < a → a < b → b < n → Behind before n (shape 2 a b)
behind_binary before n a b g h k = record {
  left = λ l. (g, omega arith);
  right = λ l. (omega arith, k);
  one = λ e. omega arith;
  two = λ e. (omega arith, omega arith);
}

sooner : (earlier before n : ℕ) (s : Shape) → earlier ≤ before → Behind before n s → Behind earlier n s
sooner earlier before n s h x = record {
  left = λ l. (let y = (x.left l).0 in omega arith, (x.left l).1);
  right = λ l. (let y = (x.right l).0 in omega arith, (x.right l).1);
  one = x.one;
  two = x.two;
}

-- each row of some expressions is so
pub record Within (shapes : List Shape) (before root : ℕ) : Type 0 where
  pub order : before ≤ root
  pub rows : (n : ℕ) → before < n → n ≤ root → Behind before n (shape_at shapes n)

none_within : (shapes : List Shape) (before root : ℕ) → before ≡ root → Within shapes before root
none_within shapes before root e = record { order = omega arith; rows = λ n g h. absurd (omega arith) }

joined : {shapes : List Shape} (a b c : ℕ) → Within shapes a b → Within shapes b c → Within shapes a c
joined {shapes} a b c x y = let p = x.order in let q = y.order in record {
  order = omega arith;
  rows = λ n g h. ⊎_elim (λ l. sooner a b n (shape_at shapes n) p (y.rows n l h)) (λ l. x.rows n g l) (cases_lt b n);
}

-- one row more
topped : {shapes : List Shape} (before last root : ℕ) → root ≡ last + 1 → Within shapes before last → Behind before root (shape_at shapes root) → Within shapes before root
topped {shapes} before last root e x y = let p = x.order in record {
  order = omega arith;
  rows = λ n g h. ⊎_elim
      (λ l. let s : root ≡ n = omega arith in subst (λ m. Behind before m (shape_at shapes m)) s y)
      (λ l. x.rows n g (omega arith)) (cases_lt last n);
}

-- the rows of an expression are so
pub expression_within : (shapes : List Shape) (before root : ℕ) → Expression shapes before root → Within shapes before root
expression_within shapes before root (leaf e s) =
    topped before before root e (none_within shapes before before refl) (subst (Behind before root) (sym s) (behind_leaf before root))
expression_within shapes before root (unary a e s x) =
    topped before a root e (expression_within shapes before a x) (subst (Behind before root) (sym s) (behind_unary before root a (expression_order x) (omega arith)))
expression_within shapes before root (binary a b e s x y) =
    topped before b root e (joined before a b (expression_within shapes before a x) (expression_within shapes a b y))
    (subst (Behind before root) (sym s) (behind_binary before root a b (expression_order x) (expression_order y) (omega arith)))

-- the rows of all expressions, one behind the other
module _ (nodes : List Node) where
  side_within : (driven : Option ℕ) (before root : ℕ) → SideLaid nodes driven before root → Within (map node_shape nodes) before root
  side_within driven before root x = expression_within (map node_shape nodes) before root x.expression

  statement_within : (c : Option Condition) (s : Statement) (before : ℕ) → StatementLaid nodes c s before → Within (map node_shape nodes) before s.value
  statement_within None s before x = side_within (Some s.last_target) before s.value x
  statement_within (Some c) s before x = joined before c.node s.value (side_within None before c.node x.1) (side_within (Some s.last_target) c.node s.value x.2)

  statements_within : (ss : List Statement) (before end : ℕ) → StatementsLaid nodes ss before end → Within (map node_shape nodes) before end
  statements_within [] before end x = none_within (map node_shape nodes) before end x
  statements_within (s ∷ ss) before end x = joined before s.value end (statement_within s.condition s before x.0) (statements_within ss s.value end x.1)

  leaving_within : (n : ℕ) (l : Leaving) (exits : ℕ) (own : List Exit) (before end : ℕ) → LeavingLaid nodes n l exits own before end → Within (map node_shape nodes) before end
  leaving_within n Next exits own before end x = none_within (map node_shape nodes) before end x.1
  leaving_within n Plain exits own before end x = none_within (map node_shape nodes) before end x.1
  leaving_within n (Conditions c last) exits own before end x = subst (Within (map node_shape nodes) before) x.2 (side_within None before c.node x.1)
  leaving_within n Dead exits own before end x = none_within (map node_shape nodes) before end x.1

  steps_within : (n : ℕ) (steps : List Step) (statements : List Statement) (exits : List Exit) (passed before end : ℕ)
      → DraftStepsLaid nodes n steps statements exits passed before end → Within (map node_shape nodes) before end
  steps_within n [] statements exits passed before end x = statements_within statements before end x.2
  steps_within n (s ∷ ss) statements exits passed before end (own, others, e, all, left, more, f, middle, own_laid, between, leaves, rest) =
      joined before middle end (statements_within own before middle own_laid)
      (joined middle between end (leaving_within n s.leaving passed left middle between leaves)
      (steps_within (n + 1) ss others more (passed + length left) between end rest))

-- where the operands of a node in row n stand
abbrev pub OperandsBefore : ℕ → Form → Type 0
OperandsBefore n (Bits r) = Unit {0}
OperandsBefore n (Literal d) = Unit {0}
OperandsBefore n (Sized w m) = Unit {0}
OperandsBefore n (Comma a b) = (1 ≤ a) × (a < n) × (1 ≤ b) × (b < n)
OperandsBefore n (Join g a b) = (1 ≤ a) × (a < n) × (1 ≤ b) × (b < n)
OperandsBefore n (Not a) = (1 ≤ a) × (a < n)
OperandsBefore n (Reduce g a) = (1 ≤ a) × (a < n)

by_form : (n : ℕ) (f : Form) → Behind 0 n (form_shape f) → OperandsBefore n f
by_form n (Bits r) x = tt
by_form n (Literal d) x = tt
by_form n (Sized w m) x = tt
by_form n (Comma a b) x = let t = x.two refl in (t.0, (x.left t.0).1, t.1, (x.right t.1).1)
by_form n (Join g a b) x = let t = x.two refl in (t.0, (x.left t.0).1, t.1, (x.right t.1).1)
by_form n (Not a) x = let t = x.one refl in (t, (x.left t).1)
by_form n (Reduce g a) x = let t = x.one refl in (t, (x.left t).1)

pub shape_of : (nodes : List Node) (n : ℕ) → IsRow nodes n → shape_at (map node_shape nodes) n ≡ form_shape (row_at empty_node nodes n).form
shape_of nodes n h = row_mapped node_shape nodes n empty_node no_shape h

pub operands_before : (d : RowLists) → Laid d → (n : ℕ) → IsRow d.terms.nodes n → OperandsBefore n (row_at empty_node d.terms.nodes n).form
operands_before d laid n h =
    let all : Within (map node_shape d.terms.nodes) 0 (length d.terms.nodes) = steps_within d.terms.nodes 1 d.steps d.statements d.exits 0 0 (length d.terms.nodes) laid.steps in
    by_form n (row_at empty_node d.terms.nodes n).form (subst (Behind 0 n) (shape_of d.terms.nodes n h) (all.rows n (let a = h.0 in omega arith) h.1))
