-- How the rows of a draft lie, whatever the rules say of them. Assumes nothing.
use Rattle.std.specs.Prelude.{◌≡◌, ℕ, ◌+◌, ◌<◌, ◌≤◌, List, [], ◌∷◌, ◌++◌, map, length, Option, Some, None, IsSome, All}
use Rattle.grammar.specs.declared.draft.Item.{Item}
use Rattle.grammar.specs.declared.draft.Form.{Form}
use Rattle.grammar.specs.declared.draft.Form.TheVariants.{Bits, Literal, Sized, Comma, Join, Not, Reduce}
use Rattle.grammar.specs.declared.draft.Node.{Node}
use Rattle.grammar.specs.declared.draft.Listed.{Listed}
use Rattle.grammar.specs.declared.draft.Condition.{Condition}
use Rattle.grammar.specs.declared.draft.Target.{Target}
use Rattle.grammar.specs.declared.draft.StatementKind.TheVariants.{Connection, Transfer}
use Rattle.grammar.specs.declared.draft.Statement.{Statement}
use Rattle.grammar.specs.declared.draft.Leaving.{Leaving}
use Rattle.grammar.specs.declared.draft.Leaving.TheVariants.{Next, Plain, Conditions, Dead}
use Rattle.grammar.specs.declared.draft.Step.{Step}
use Rattle.grammar.specs.declared.draft.Exit.{Exit}
use Rattle.grammar.specs.Drafts.{RowLists}
use Rattle.least.specs.Each.{IsRow, row_at}
use Rattle.database.specs.Expressions.{Shape, shape, Expression}

-- the shape of a node
abbrev pub form_shape : Form → Shape
form_shape (Bits r) = shape 0 0 0
form_shape (Literal d) = shape 0 0 0
form_shape (Sized n m) = shape 0 0 0
form_shape (Comma a b) = shape 2 a b
form_shape (Join g a b) = shape 2 a b
form_shape (Not a) = shape 1 a 0
form_shape (Reduce g a) = shape 1 a 0

abbrev pub node_shape : Node → Shape
node_shape x = form_shape x.form

-- of the row of a node, the last target of the statement whose value it belongs to
abbrev pub driven_at : List Node → ℕ → Option ℕ
driven_at nodes n = row_at None (map (λ x. x.driven) nodes) n

-- the nodes behind `before`, up to `root`, are those of one expression, and all have that last target
pub record SideLaid (nodes : List Node) (driven : Option ℕ) (before root : ℕ) : Type 0 where
  pub expression : Expression (map node_shape nodes) before root
  pub drives : (n : ℕ) → before < n → n ≤ root → driven_at nodes n ≡ driven

-- The nodes behind `before` are those of the statement: its condition's, and its value's, which is the last. Only a transfer has a
-- condition.
abbrev pub StatementLaid : List Node → Option Condition → Statement → ℕ → Type 0
StatementLaid nodes None s before = SideLaid nodes (Some s.last_target) before s.value
StatementLaid nodes (Some c) s before = (s.kind ≡ Transfer) × SideLaid nodes None before c.node × SideLaid nodes (Some s.last_target) c.node s.value

-- the same of statements one behind another
abbrev pub StatementsLaid : List Node → List Statement → ℕ → ℕ → Type 0
StatementsLaid nodes [] before end = before ≡ end
StatementsLaid nodes (s ∷ ss) before end = StatementLaid nodes s.condition s before × StatementsLaid nodes ss s.value end

-- a branch's list: the first integer has no comma before it, the others have one, and all leave that step
abbrev pub ListLaid : ℕ → List Exit → Type 0
ListLaid n [] = ⊥
ListLaid n (e ∷ es) = (e.step ≡ n) × (e.entered.comma ≡ None) × All (λ x. (x.step ≡ n) × IsSome x.entered.comma) es

-- How a step is left, with so many exits before its own: the nodes of its conditions, behind `before` up to `end`, and its exits.
abbrev pub LeavingLaid : List Node → ℕ → Leaving → ℕ → List Exit → ℕ → ℕ → Type 0
LeavingLaid nodes n Next exits own before end = (own ≡ []) × (before ≡ end)
LeavingLaid nodes n Plain exits own before end = ListLaid n own × (before ≡ end)
LeavingLaid nodes n (Conditions c last) exits own before end =
    ListLaid n own × SideLaid nodes None before c.node × (c.node ≡ end) × (last ≡ exits + length own)
LeavingLaid nodes n Dead exits own before end = (own ≡ []) × (before ≡ end)

-- The statements, exits and nodes of the steps from that number on, so many exits and nodes standing before them; behind all steps
-- stand the connections of none.
abbrev pub DraftStepsLaid : List Node → ℕ → List Step → List Statement → List Exit → ℕ → ℕ → ℕ → Type 0
DraftStepsLaid nodes n [] statements exits passed before end =
    All (λ s. (s.step ≡ None) × (s.kind ≡ Connection)) statements × (exits ≡ []) × StatementsLaid nodes statements before end
DraftStepsLaid nodes n (x ∷ xs) statements exits passed before end =
    (own : List Statement) × (others : List Statement) × (statements ≡ own ++ others) × All (λ s. s.step ≡ Some n) own
    × (left : List Exit) × (more : List Exit) × (exits ≡ left ++ more)
    × (middle : ℕ) × StatementsLaid nodes own before middle
    × (between : ℕ) × LeavingLaid nodes n x.leaving passed left middle between
    × DraftStepsLaid nodes (n + 1) xs others more (passed + length left) between end

-- the targets of a statement: the first has no comma before it, the others have one
abbrev pub OwnTargets : ℕ → List Target → Type 0
OwnTargets n [] = ⊥
OwnTargets n (t ∷ ts) = (t.statement ≡ n) × (t.comma ≡ None) × All (λ x. (x.statement ≡ n) × IsSome x.comma) ts

-- the targets of the statements from that number on, so many standing before them; each statement has the row of its last
abbrev pub DraftTargetsLaid : ℕ → List Statement → List Target → ℕ → Type 0
DraftTargetsLaid n [] targets passed = targets ≡ []
DraftTargetsLaid n (s ∷ ss) targets passed =
    (own : List Target) × (others : List Target) × (targets ≡ own ++ others)
    × OwnTargets n own × (s.last_target ≡ passed + length own) × DraftTargetsLaid (n + 1) ss others (passed + length own)

-- the first integer of all has no comma before it
abbrev pub FirstPlain : List Listed → Type 0
FirstPlain [] = Unit {0}
FirstPlain (d ∷ ds) = d.comma ≡ None

-- a bit string has the row of an integer
abbrev pub LiteralThere : List Listed → Form → Type 0
LiteralThere digits (Literal d) = IsRow digits d
LiteralThere digits _ = Unit {0}

-- the rows of a draft
pub record Laid (d : RowLists) : Type 0 where
  pub some_step : 1 ≤ length d.steps
  pub steps : DraftStepsLaid d.terms.nodes 1 d.steps d.statements d.exits 0 0 (length d.terms.nodes)
  pub targets : DraftTargetsLaid 1 d.statements d.targets 0
  pub digits : FirstPlain d.terms.digits
  pub literals : All (λ x. LiteralThere d.terms.digits x.form) d.terms.nodes

-- The names of the items are parts of a text from one place up to another, none of them empty, and stand one behind the other.
abbrev pub NamesWithin : ℕ → ℕ → List Item → Type 0
NamesWithin from to [] = from ≤ to
NamesWithin from to (x ∷ xs) = (from ≤ x.name.place) × (1 ≤ x.name.len) × NamesWithin (x.name.place + x.name.len) to xs
