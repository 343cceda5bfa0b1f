-- Where the rows of a draft stand: which steps and nodes its steps, statements and exits name. Assumes nothing.
use Rattle.std.proofs.Common.{◌≡◌, ℕ, ◌+◌, ◌<◌, ◌≤◌, List, [], ◌∷◌, ◌++◌, length, get_or, Option, Some, None, unwrap_or, IsSome, All, ap, arith}
use Rattle.std.proofs.lemmas.List.Elements.{All-nil, All-cons, All-append, All-same, All-weaker}
use Rattle.grammar.specs.declared.draft.Condition.{Condition}
use Rattle.grammar.specs.declared.draft.Exit.{Exit}
use Rattle.grammar.specs.declared.draft.Leaving.{Leaving}
use Rattle.grammar.specs.declared.draft.Leaving.TheVariants.{Next, Plain, Conditions, Dead}
use Rattle.grammar.specs.declared.draft.Node.{Node}
use Rattle.grammar.specs.declared.draft.Statement.{Statement}
use Rattle.grammar.specs.declared.draft.StatementKind.{StatementKind}
use Rattle.grammar.specs.declared.draft.StatementKind.TheVariants.{Connection, Transfer}
use Rattle.grammar.specs.declared.draft.Step.{Step}
use Rattle.grammar.specs.Drafts.{RowLists}
use Rattle.least.specs.Each.{IsRow}
use Rattle.database.specs.Expressions.{Shape, Expression, leaf, unary, binary}
use Rattle.soundness.specs.Layout.{SideLaid, StatementLaid, StatementsLaid, ListLaid, LeavingLaid, DraftStepsLaid, Laid}

-- only a transfer has a condition, and its node is there
abbrev pub ConditionStands : List Node → StatementKind → Option Condition → Type 0
ConditionStands nodes kind None = Unit {0}
ConditionStands nodes kind (Some c) = (kind ≡ Transfer) × IsRow nodes c.node

-- a statement's nodes are there
record SideStands (nodes : List Node) (s : Statement) : Type 0 where
  condition : ConditionStands nodes s.kind s.condition
  before : ℕ
  side : SideLaid nodes (Some s.last_target) before s.value
  value : IsRow nodes s.value

-- a statement's step and nodes are there, and only a connection stands in no step
pub record StatementStands (nodes : List Node) (steps : ℕ) (s : Statement) : Type 0 where
  pub step : unwrap_or s.step 0 ≤ steps
  pub transfer : s.kind ≡ Transfer → 1 ≤ unwrap_or s.step 0
  pub condition : ConditionStands nodes s.kind s.condition
  pub before : ℕ
  pub side : SideLaid nodes (Some s.last_target) before s.value
  pub value : IsRow nodes s.value

-- the node of a step's own conditions is there
abbrev pub LeavingStands : List Node → Leaving → Type 0
LeavingStands nodes Next = Unit {0}
LeavingStands nodes Plain = Unit {0}
LeavingStands nodes (Conditions c last) = IsRow nodes c.node
LeavingStands nodes Dead = Unit {0}

abbrev pub StepStands : List Node → Step → Type 0
StepStands nodes x = LeavingStands nodes x.leaving

-- the step that an exit leaves is there
abbrev pub ExitStands : ℕ → Exit → Type 0
ExitStands steps e = (1 ≤ e.step) × (e.step ≤ steps)

-- all rows of some steps
pub record Stand (nodes : List Node) (total : ℕ) (xs : List Step) (ss : List Statement) (es : List Exit) : Type 0 where
  pub steps : All (StepStands nodes) xs
  pub statements : All (StatementStands nodes total) ss
  pub exits : All (ExitStands total) es

in_step : (nodes : List Node) (total n : ℕ) (s : Statement) → 1 ≤ n → n ≤ total → s.step ≡ Some n → SideStands nodes s → StatementStands nodes total s
in_step nodes total n s one most e p =
    let z : unwrap_or s.step 0 ≡ n = ap (λ o. unwrap_or o 0) e in
    record { step = omega arith; transfer = λ t. omega arith; condition = p.condition; before = p.before; side = p.side; value = p.value }

in_none : (nodes : List Node) (total : ℕ) (s : Statement) → s.step ≡ None → s.kind ≡ Connection → SideStands nodes s → StatementStands nodes total s
in_none nodes total s e kind p =
    let z : unwrap_or s.step 0 ≡ 0 = ap (λ o. unwrap_or o 0) e in
    record { step = omega arith; transfer = λ t. cc; condition = p.condition; before = p.before; side = p.side; value = p.value }

-- an expression has a node
pub expression_order : {shapes : List Shape} {before root : ℕ} → Expression shapes before root → before < root
expression_order (leaf e s) = omega arith
expression_order (unary a e s x) = let l = expression_order x in omega arith
expression_order (binary a b e s x y) = let l = expression_order x in let m = expression_order y in omega arith

module _ (nodes : List Node) where
  statement_order : (c : Option Condition) (s : Statement) (before : ℕ) → StatementLaid nodes c s before → before < s.value
  statement_order None s before l = expression_order l.expression
  statement_order (Some c) s before l = let a = expression_order (l.1).expression in let b = expression_order (l.2).expression in omega arith

  statements_order : (ss : List Statement) (before end : ℕ) → StatementsLaid nodes ss before end → before ≤ end
  statements_order [] before end l = let e : before ≡ end = l in omega arith
  statements_order (s ∷ ss) before end l = let a = statement_order s.condition s before l.0 in let b = statements_order ss s.value end l.1 in omega arith

  leaving_order : (n : ℕ) (x : Leaving) (passed : ℕ) (own : List Exit) (before end : ℕ) → LeavingLaid nodes n x passed own before end → before ≤ end
  leaving_order n Next passed own before end l = let e = l.1 in omega arith
  leaving_order n Plain passed own before end l = let e = l.1 in omega arith
  leaving_order n (Conditions c last) passed own before end l = let e = l.2 in let a = expression_order (l.1).expression in omega arith
  leaving_order n Dead passed own before end l = let e = l.1 in omega arith

  steps_order : (n : ℕ) (xs : List Step) (ss : List Statement) (es : List Exit) (passed before end : ℕ) → DraftStepsLaid nodes n xs ss es passed before end → before ≤ end
  steps_order n [] ss es passed before end l = statements_order ss before end l.2
  steps_order n (x ∷ xs) ss es passed before end (own, others, p, all, left, more, q, middle, laid, between, leaves, rest) =
      let a = statements_order own before middle laid in
      let b = leaving_order n x.leaving passed left middle between leaves in
      let c = steps_order (n + 1) xs others more (passed + length left) between end rest in
      omega arith

  condition_stands : (c : Option Condition) (s : Statement) (before : ℕ) → s.value ≤ length nodes → StatementLaid nodes c s before → ConditionStands nodes s.kind c
  condition_stands None s before h l = tt
  condition_stands (Some c) s before h l = let a = expression_order (l.1).expression in let b = expression_order (l.2).expression in (l.0, (omega arith, omega arith))

  side_stands : (c : Option Condition) (s : Statement) (before : ℕ) → StatementLaid nodes c s before → (from : ℕ) × SideLaid nodes (Some s.last_target) from s.value
  side_stands None s before l = (before, l)
  side_stands (Some c) s before l = (c.node, l.2)

  sides_stand : (ss : List Statement) (before end : ℕ) → end ≤ length nodes → StatementsLaid nodes ss before end → All (SideStands nodes) ss
  sides_stand [] before end h l = All-nil (SideStands nodes)
  sides_stand (s ∷ ss) before end h l =
      let first : before < s.value = statement_order s.condition s before l.0 in
      let last : s.value ≤ end = statements_order ss s.value end l.1 in
      let (from, side) = side_stands s.condition s before l.0 in
      All-cons (SideStands nodes) s ss
      (record { condition = condition_stands s.condition s before (omega arith) l.0; before = from; side = side; value = (omega arith, omega arith) })
      (sides_stand ss s.value end h l.1)

  leaving_stands : (n : ℕ) (x : Leaving) (passed : ℕ) (own : List Exit) (before end : ℕ) → end ≤ length nodes → LeavingLaid nodes n x passed own before end → LeavingStands nodes x
  leaving_stands n Next passed own before end h l = tt
  leaving_stands n Plain passed own before end h l = tt
  leaving_stands n (Conditions c last) passed own before end h l = let e = l.2 in let a = expression_order (l.1).expression in (omega arith, omega arith)
  leaving_stands n Dead passed own before end h l = tt

  list_leaves : (n : ℕ) (es : List Exit) → ListLaid n es → All (λ e. e.step ≡ n) es
  list_leaves n [] l = absurd l
  list_leaves n (e ∷ es) l = All-cons (λ x. x.step ≡ n) e es l.0 (All-weaker (λ x. (x.step ≡ n) × IsSome x.entered.comma) (λ x. x.step ≡ n) (λ x p. p.0) es l.2)

  -- all exits of a step leave it
  pub exits_leave : (n : ℕ) (x : Leaving) (passed : ℕ) (own : List Exit) (before end : ℕ) → LeavingLaid nodes n x passed own before end → All (λ e. e.step ≡ n) own
  exits_leave n Next passed own before end l = All-same (λ e. e.step ≡ n) own [] l.0 (All-nil (λ e. e.step ≡ n))
  exits_leave n Plain passed own before end l = list_leaves n own l.0
  exits_leave n (Conditions c last) passed own before end l = list_leaves n own l.0
  exits_leave n Dead passed own before end l = All-same (λ e. e.step ≡ n) own [] l.0 (All-nil (λ e. e.step ≡ n))

  steps_stand : (total n : ℕ) (xs : List Step) (ss : List Statement) (es : List Exit) (passed before end : ℕ) → 1 ≤ n → n + length xs ≡ total + 1 → end ≤ length nodes →
      DraftStepsLaid nodes n xs ss es passed before end → Stand nodes total xs ss es
  steps_stand total n [] ss es passed before end one many h l =
      let sides = sides_stand ss before end h l.2 in
      record {
        steps = All-nil (StepStands nodes);
        statements = λ k d i. in_none nodes total (get_or ss k d) (l.0 k d i).0 (l.0 k d i).1 (sides k d i);
        exits = All-same (ExitStands total) es [] l.1 (All-nil (ExitStands total));
      }
  steps_stand total n (x ∷ xs) ss es passed before end one many h (own, others, p, all, left, more, q, middle, laid, between, leaves, rest) =
      let later : between ≤ end = steps_order (n + 1) xs others more (passed + length left) between end rest in
      let then : middle ≤ between = leaving_order n x.leaving passed left middle between leaves in
      let stand : Stand nodes total xs others more = steps_stand total (n + 1) xs others more (passed + length left) between end (omega arith) (omega arith) h rest in
      let sides = sides_stand own before middle (omega arith) laid in
      let leave = exits_leave n x.leaving passed left middle between leaves in
      record {
        steps = All-cons (StepStands nodes) x xs (leaving_stands n x.leaving passed left middle between (omega arith) leaves) stand.steps;
        statements = All-same (StatementStands nodes total) ss (own ++ others) p
            (All-append (StatementStands nodes total) own others (λ k d i. in_step nodes total n (get_or own k d) one (omega arith) (all k d i) (sides k d i)) stand.statements);
        exits = All-same (ExitStands total) es (left ++ more) q
            (All-append (ExitStands total) left more (λ k d i. let e = leave k d i in (omega arith, omega arith)) stand.exits);
      }

-- all rows of a draft
pub stand : (d : RowLists) → Laid d → Stand d.terms.nodes (length d.steps) d.steps d.statements d.exits
stand d laid =
    steps_stand d.terms.nodes (length d.steps) 1 d.steps d.statements d.exits 0 0 (length d.terms.nodes) (omega arith) (omega arith) (omega arith) laid.steps
