-- How the rows of statements lie behind those that stand. Assumes nothing.
use Rattle.std.proofs.Common.{◌≡◌, ℕ, ◌+◌, List, [], ◌∷◌, ◌++◌, length, Option, Some, None, IsSome, refl, sym, ap, ◌∙◌, subst, append_assoc, append-nil, length-append, add-zero, arith}
use Rattle.std.specs.Prelude.{All}
use Rattle.std.proofs.lemmas.List.Elements.{All-nil, All-cons, All-append}
use Rattle.words.specs.declared.token.Sign.TheVariants.{Semicolon, Comma}
use Rattle.grammar.specs.declared.draft.Node.{Node}
use Rattle.grammar.specs.declared.draft.Target.{Target}
use Rattle.grammar.specs.declared.draft.Condition.{Condition}
use Rattle.grammar.specs.declared.draft.StatementKind.{StatementKind}
use Rattle.grammar.specs.declared.draft.StatementKind.TheVariants.{Connection, Transfer}
use Rattle.grammar.specs.declared.draft.Statement.{Statement}
use Rattle.grammar.specs.Rules.{mark, ref, many, ◌then◌, expr, targets, conn, stmt}
use Rattle.grammar.specs.Trees.{Tree, mark_at, both, end, more, left, right}
use Rattle.grammar.specs.Drafts.{RowLists, TermLists, with_target, with_terms, with_statement, root, expr_rows, target_at, more_targets, target_rows, targets_place, head_at, statement_at, value_rows, condition_rows, condition_at, conn_rows, more_conns, stmt_rows}
use Rattle.soundness.specs.Layout.{SideLaid, StatementLaid, StatementsLaid, OwnTargets, DraftTargetsLaid, FirstPlain, LiteralThere}
use Rattle.soundness.proofs.Terms.{grown_side, side_kept, expr_grown}

-- statements lie as they did where more nodes follow
statement_kept : (nodes others : List Node) (c : Option Condition) (s : Statement) (before : ℕ) → StatementLaid nodes c s before → StatementLaid (nodes ++ others) c s before
statement_kept nodes others None s before x = side_kept nodes others (Some s.last_target) before s.value x
statement_kept nodes others (Some c) s before x = (x.0, side_kept nodes others None before c.node x.1, side_kept nodes others (Some s.last_target) c.node s.value x.2)

pub statements_kept : (nodes others : List Node) (ss : List Statement) (before stop : ℕ) → StatementsLaid nodes ss before stop → StatementsLaid (nodes ++ others) ss before stop
statements_kept nodes others [] before stop x = x
statements_kept nodes others (s ∷ ss) before stop x = (statement_kept nodes others s.condition s before x.0, statements_kept nodes others ss s.value stop x.1)

-- statements behind statements
pub statements_append : (nodes : List Node) (ss ts : List Statement) (before middle stop : ℕ) → StatementsLaid nodes ss before middle → StatementsLaid nodes ts middle stop → StatementsLaid nodes (ss ++ ts) before stop
statements_append nodes [] ts before middle stop x y = subst (λ (n : ℕ). StatementsLaid nodes ts n stop) (sym x) y
statements_append nodes (s ∷ ss) ts before middle stop x y = (x.0, statements_append nodes ss ts s.value middle stop x.1 y)

-- targets
abbrev with_targets : RowLists → List Target → RowLists
with_targets d xs = record { items = d.items; steps = d.steps; statements = d.statements; targets = xs; exits = d.exits; resets = d.resets; terms = d.terms }

abbrev FollowsIn : ℕ → Target → Type 0
FollowsIn n x = (x.statement ≡ n) × IsSome x.comma

more_targets_are : (rs : Tree (many (mark Comma then ref))) (d : RowLists) → (ys : List Target) × (more_targets rs d ≡ with_targets d (d.targets ++ ys)) × All (λ x. FollowsIn (length d.statements + 1) x) ys
more_targets_are end d = ([], ap (with_targets d) (sym (append-nil d.targets)), All-nil (FollowsIn (length d.statements + 1)))
more_targets_are (more (both (mark_at p) r) rs) d =
    let t = target_at d (Some p) r in
    let z = more_targets_are rs (with_target d t) in
    (t ∷ z.0, z.1 ∙ ap (with_targets d) (append_assoc d.targets (t ∷ []) z.0), All-cons (FollowsIn (length d.statements + 1)) t z.0 (refl, refl) z.2)

targets_are : (ts : Tree targets) (d : RowLists) → (own : List Target) × (target_rows ts d ≡ with_targets d (d.targets ++ own)) × OwnTargets (length d.statements + 1) own
targets_are (both r rs) d =
    let t = target_at d None r in
    let z = more_targets_are rs (with_target d t) in
    (t ∷ z.0, z.1 ∙ ap (with_targets d) (append_assoc d.targets (t ∷ []) z.0), (refl, refl, z.2))

-- the targets of one statement more
targets_grow : (n : ℕ) (ss : List Statement) (s : Statement) (targets own : List Target) (passed m : ℕ) → DraftTargetsLaid n ss targets passed → m ≡ n + length ss → OwnTargets m own → s.last_target ≡ passed + length targets + length own → DraftTargetsLaid n (ss ++ s ∷ []) (targets ++ own) passed
targets_grow n [] s targets own passed m h e o l =
    let none : length targets ≡ 0 = ap length h in
    (own, [], ap (λ (xs : List Target). xs ++ own) h ∙ sym (append-nil own), subst (λ (k : ℕ). OwnTargets k own) (e ∙ add-zero n) o, omega arith, refl)
targets_grow n (x ∷ xs) s targets own passed m h e o l =
    let long : length targets ≡ length h.0 + length h.1 = ap length h.2 ∙ length-append h.0 h.1 in
    (h.0, h.1 ++ own, ap (λ (xs : List Target). xs ++ own) h.2 ∙ append_assoc h.0 h.1 own, h.3, h.4, targets_grow (n + 1) xs s h.1 own (passed + length h.0) m h.5 (omega arith) o (omega arith))

-- what holds between any two statements
pub record Orderly (d : RowLists) : Type 0 where
  pub targets : DraftTargetsLaid 1 d.statements d.targets 0
  pub digits : FirstPlain d.terms.digits
  pub literals : All (λ x. LiteralThere d.terms.digits x.form) d.terms.nodes

-- statements, each of which P holds, were put behind those that stood
pub record Added (P : Statement → Type 0) (old new : RowLists) : Type 0 where
  pub own : List Statement
  pub more : List Node
  pub statements : new.statements ≡ old.statements ++ own
  pub nodes : new.terms.nodes ≡ old.terms.nodes ++ more
  pub items : new.items ≡ old.items
  pub steps : new.steps ≡ old.steps
  pub exits : new.exits ≡ old.exits
  pub are : All P own
  pub laid : StatementsLaid new.terms.nodes own (root old.terms) (root new.terms)
  pub orderly : Orderly old → Orderly new

pub added_none : (P : Statement → Type 0) (d : RowLists) → Added P d d
added_none P d = record {
  own = [];
  more = [];
  statements = sym (append-nil d.statements);
  nodes = sym (append-nil d.terms.nodes);
  items = refl;
  steps = refl;
  exits = refl;
  are = All-nil P;
  laid = refl;
  orderly = λ h. h;
}

pub added_then : (P : Statement → Type 0) (a b c : RowLists) → Added P a b → Added P b c → Added P a c
added_then P a b c g h = record {
  own = g.own ++ h.own;
  more = g.more ++ h.more;
  statements = h.statements ∙ (ap (λ (xs : List Statement). xs ++ h.own) g.statements ∙ append_assoc a.statements g.own h.own);
  nodes = h.nodes ∙ (ap (λ (xs : List Node). xs ++ h.more) g.nodes ∙ append_assoc a.terms.nodes g.more h.more);
  items = h.items ∙ g.items;
  steps = h.steps ∙ g.steps;
  exits = h.exits ∙ g.exits;
  are = All-append P g.own h.own g.are h.are;
  laid = statements_append c.terms.nodes g.own h.own (root a.terms) (root b.terms) (root c.terms)
      (subst (λ (xs : List Node). StatementsLaid xs g.own (root a.terms) (root b.terms)) (sym h.nodes) (statements_kept b.terms.nodes h.more g.own (root a.terms) (root b.terms) g.laid))
      h.laid;
  orderly = λ o. h.orderly (g.orderly o);
}

-- one statement, with its targets
module _ (P : Statement → Type 0) (d : RowLists) (own : List Target) (owned : OwnTargets (length d.statements + 1) own) where
  one_added : (x : Statement) (ts : TermLists) (new : List Node) → P x → x.last_target ≡ length (d.targets ++ own) → x.value ≡ root ts → ts.nodes ≡ d.terms.nodes ++ new → StatementLaid ts.nodes x.condition x (root d.terms) → (FirstPlain d.terms.digits → FirstPlain ts.digits) → (All (λ y. LiteralThere d.terms.digits y.form) d.terms.nodes → All (λ y. LiteralThere ts.digits y.form) ts.nodes) → Added P d (with_statement (with_terms (with_targets d (d.targets ++ own)) ts) x)
  one_added x ts new p last value nodes laid plain literals = record {
    own = x ∷ [];
    more = new;
    statements = refl;
    nodes = nodes;
    items = refl;
    steps = refl;
    exits = refl;
    are = All-cons P x [] p (All-nil P);
    laid = (laid, value);
    orderly = λ o. record {
      targets = targets_grow 1 d.statements x d.targets own 0 (length d.statements + 1) o.targets (omega arith) owned (omega (arith, length-append d.targets own));
      digits = plain o.digits;
      literals = literals o.literals;
    };
  }

  -- without a condition
  value_added : (p : ℕ) (s : Option ℕ) (k : StatementKind) (q : ℕ) (e : Tree expr) → ((x : Statement) → x.step ≡ s → x.kind ≡ k → P x) → Added P d (value_rows (head_at p s k None q) e (with_targets d (d.targets ++ own)))
  value_added p s k q e is =
      let drives = Some (length (d.targets ++ own)) in
      let g = expr_grown e drives d.terms in
      let x = statement_at (head_at p s k None q) (with_terms (with_targets d (d.targets ++ own)) (expr_rows e drives d.terms)) in
      one_added x (expr_rows e drives d.terms) g.more (is x refl refl) refl refl g.nodes (grown_side drives d.terms (expr_rows e drives d.terms) g) g.plain g.literals

  -- with one
  conditional_added : (p : ℕ) (s : Option ℕ) (q r : ℕ) (c e : Tree expr) → ((x : Statement) → x.step ≡ s → P x) → Added P d (value_rows (head_at p s Transfer (Some (condition_at r (condition_rows c (with_targets d (d.targets ++ own))))) q) e (condition_rows c (with_targets d (d.targets ++ own))))
  conditional_added p s q r c e is =
      let drives = Some (length (d.targets ++ own)) in
      let between = expr_rows c None d.terms in
      let after = expr_rows e drives between in
      let g = expr_grown c None d.terms in
      let h = expr_grown e drives between in
      let first = side_kept between.nodes h.more None (root d.terms) (root between) (grown_side None d.terms between g) in
      let x = statement_at (head_at p s Transfer (Some (condition_at r (condition_rows c (with_targets d (d.targets ++ own))))) q) (with_terms (with_targets d (d.targets ++ own)) after) in
      one_added x after (g.more ++ h.more) (is x refl) refl refl
      (h.nodes ∙ (ap (λ (xs : List Node). xs ++ h.more) g.nodes ∙ append_assoc d.terms.nodes g.more h.more))
      (refl, subst (λ (xs : List Node). SideLaid xs None (root d.terms) (root between)) (sym h.nodes) first, grown_side drives between after h)
      (λ o. h.plain (g.plain o))
      (λ o. h.literals (g.literals o))

-- a statement of the step s
abbrev pub OfStep : ℕ → Statement → Type 0
OfStep s x = x.step ≡ Some s

pub stmt_added : (s : ℕ) (t : Tree stmt) (d : RowLists) → Added (OfStep s) d (stmt_rows s t d)
stmt_added s (both ts (left (both (mark_at q) e))) d =
    let z = targets_are ts d in
    subst (λ (r : RowLists). Added (OfStep s) d (value_rows (head_at (targets_place ts) (Some s) Connection None q) e r)) (sym z.1)
    (value_added (OfStep s) d z.0 z.2 (targets_place ts) (Some s) Connection q e (λ x h k. h))
stmt_added s (both ts (right (left (both (mark_at q) e)))) d =
    let z = targets_are ts d in
    subst (λ (r : RowLists). Added (OfStep s) d (value_rows (head_at (targets_place ts) (Some s) Transfer None q) e r)) (sym z.1)
    (value_added (OfStep s) d z.0 z.2 (targets_place ts) (Some s) Transfer q e (λ x h k. h))
stmt_added s (both ts (right (right (both (mark_at p) (both o (both c (both z (both (mark_at q) e)))))))) d =
    let w = targets_are ts d in
    subst (λ (r : RowLists). Added (OfStep s) d (value_rows (head_at (targets_place ts) (Some s) Transfer (Some (condition_at p (condition_rows c r))) q) e (condition_rows c r))) (sym w.1)
    (conditional_added (OfStep s) d w.0 w.2 (targets_place ts) (Some s) q p c e (λ x h. h))

-- connections behind CONTROLRESET
abbrev pub OfNone : Statement → Type 0
OfNone x = (x.step ≡ None) × (x.kind ≡ Connection)

conn_added : (t : Tree conn) (d : RowLists) → Added OfNone d (conn_rows t d)
conn_added (both ts (both (mark_at q) e)) d =
    let z = targets_are ts d in
    subst (λ (r : RowLists). Added OfNone d (value_rows (head_at (targets_place ts) None Connection None q) e r)) (sym z.1)
    (value_added OfNone d z.0 z.2 (targets_place ts) None Connection q e (λ x h k. (h, k)))

pub conns_added : (t : Tree (many (mark Semicolon then conn))) (d : RowLists) → Added OfNone d (more_conns t d)
conns_added end d = added_none OfNone d
conns_added (more (both p c) cs) d = added_then OfNone d (conn_rows c d) (more_conns cs (conn_rows c d)) (conn_added c d) (conns_added cs (conn_rows c d))
