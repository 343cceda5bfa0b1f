-- The draft of a module: the rows that its tree says, in the order of the text. Assumes nothing.
use Rattle.std.specs.Prelude.{ℕ, ◌+◌, List, [], ◌∷◌, ◌++◌, length, Some, None, vec_items, Option, map}
use Rattle.words.specs.declared.token.Sign.TheVariants.{Colon, Semicolon, Comma, LeftBracket, RightBracket, And, Or, Xor}
use Rattle.grammar.specs.declared.draft.Name.{Name}
use Rattle.grammar.specs.declared.draft.Number.{Number}
use Rattle.grammar.specs.declared.draft.Class.{Class}
use Rattle.grammar.specs.declared.draft.Class.TheVariants.{Input, Output, Memory, Bus}
use Rattle.grammar.specs.declared.draft.Item.{Item}
use Rattle.grammar.specs.declared.draft.Subscript.{Subscript}
use Rattle.grammar.specs.declared.draft.Reference.{Reference}
use Rattle.grammar.specs.declared.draft.Gate.TheVariants.{And as AndGate, Or as OrGate, Xor as XorGate}
use Rattle.grammar.specs.declared.draft.Form.{Form}
use Rattle.grammar.specs.declared.draft.Form.TheVariants.{Bits, Literal, Sized, Comma as CommaForm, Join, Not as NotForm, Reduce}
use Rattle.grammar.specs.declared.draft.Node.{Node}
use Rattle.grammar.specs.declared.draft.Listed.{Listed}
use Rattle.grammar.specs.declared.draft.Target.{Target}
use Rattle.grammar.specs.declared.draft.Condition.{Condition}
use Rattle.grammar.specs.declared.draft.StatementKind.{StatementKind}
use Rattle.grammar.specs.declared.draft.StatementKind.TheVariants.{Connection, Transfer}
use Rattle.grammar.specs.declared.draft.Statement.{Statement}
use Rattle.grammar.specs.declared.draft.Leaving.{Leaving}
use Rattle.grammar.specs.declared.draft.Leaving.TheVariants.{Next, Plain, Conditions, Dead}
use Rattle.grammar.specs.declared.draft.Step.{Step}
use Rattle.grammar.specs.declared.draft.Exit.{Exit}
use Rattle.grammar.specs.declared.draft.Terms.{Terms}
use Rattle.grammar.specs.declared.draft.Rows.{Rows}
use Rattle.grammar.specs.declared.draft.Heading.{Heading}
use Rattle.grammar.specs.declared.draft.Draft.{Draft}
use Rattle.grammar.specs.Rules.{group, signed, mark, name, integer, ◌then◌, maybe, many, series, list_of, integers, item, ref, primary, prefix_sign, prefix, and, xor, or, expr, targets, conn, stmt, branch, action, step, class, decl, unit}
use Rattle.grammar.specs.Trees.{Tree, mark_at, name_at, integer_at, both, none, some, end, more, left, right, one, other, last, closing, next, nested}

-- the rows of expressions, as lists
pub record TermLists : Type 0 where
  pub nodes : List Node
  pub digits : List Listed

abbrev pub term_lists : Terms → TermLists
term_lists t = record { nodes = vec_items t.nodes; digits = vec_items t.digits }

-- all rows, as lists
pub record RowLists : Type 0 where
  pub items : List Item
  pub steps : List Step
  pub statements : List Statement
  pub targets : List Target
  pub exits : List Exit
  pub resets : List Listed
  pub terms : TermLists

abbrev pub row_lists : Rows → RowLists
row_lists r = record {
  items = vec_items r.items;
  steps = vec_items r.steps;
  statements = vec_items r.statements;
  targets = vec_items r.targets;
  exits = vec_items r.exits;
  resets = vec_items r.resets;
  terms = term_lists r.terms;
}

-- one row more
abbrev pub with_node : TermLists → Node → TermLists
with_node d x = record { nodes = d.nodes ++ x ∷ []; digits = d.digits }

abbrev pub with_digits : TermLists → List Listed → TermLists
with_digits d xs = record { nodes = d.nodes; digits = xs }

abbrev pub with_item : RowLists → Item → RowLists
with_item d x = record { items = d.items ++ x ∷ []; steps = d.steps; statements = d.statements; targets = d.targets; exits = d.exits; resets = d.resets; terms = d.terms }

abbrev pub with_step : RowLists → Step → RowLists
with_step d x = record { items = d.items; steps = d.steps ++ x ∷ []; statements = d.statements; targets = d.targets; exits = d.exits; resets = d.resets; terms = d.terms }

abbrev pub with_statement : RowLists → Statement → RowLists
with_statement d x = record { items = d.items; steps = d.steps; statements = d.statements ++ x ∷ []; targets = d.targets; exits = d.exits; resets = d.resets; terms = d.terms }

abbrev pub with_target : RowLists → Target → RowLists
with_target d x = record { items = d.items; steps = d.steps; statements = d.statements; targets = d.targets ++ x ∷ []; exits = d.exits; resets = d.resets; terms = d.terms }

abbrev pub with_exits : RowLists → List Exit → RowLists
with_exits d xs = record { items = d.items; steps = d.steps; statements = d.statements; targets = d.targets; exits = xs; resets = d.resets; terms = d.terms }

abbrev pub with_resets : RowLists → List Listed → RowLists
with_resets d xs = record { items = d.items; steps = d.steps; statements = d.statements; targets = d.targets; exits = d.exits; resets = xs; terms = d.terms }

abbrev pub with_terms : RowLists → TermLists → RowLists
with_terms d ts = record { items = d.items; steps = d.steps; statements = d.statements; targets = d.targets; exits = d.exits; resets = d.resets; terms = ts }

-- names, integers, references
abbrev pub name_of : Tree name → Name
name_of (name_at p n) = record { place = p; len = n }

abbrev pub number_of : Tree integer → Number
number_of (integer_at p v) = record { place = p; value = v }

abbrev pub subscript_of : Tree (mark LeftBracket then integer then maybe (mark Colon then integer) then mark RightBracket) → Subscript
subscript_of (both (mark_at p) (both i (both none q))) = record { place = p; first = (number_of i).value; last = (number_of i).value }
subscript_of (both (mark_at p) (both i (both (some (both c j)) q))) = record { place = p; first = (number_of i).value; last = (number_of j).value }

abbrev pub ref_of : Tree ref → Reference
ref_of (both n none) = record { name = name_of n; subscript = None }
ref_of (both n (some s)) = record { name = name_of n; subscript = Some (subscript_of s) }

-- lists of integers, behind those that stand already
abbrev pub listed_at : Option ℕ → Tree integer → Listed
listed_at c i = record { comma = c; integer = number_of i }

abbrev pub more_listed : Tree (many (mark Comma then integer)) → List Listed → List Listed
more_listed end xs = xs
more_listed (more (both (mark_at p) i) is) xs = more_listed is (xs ++ listed_at (Some p) i ∷ [])

abbrev pub listed : Tree integers → List Listed → List Listed
listed (both i is) xs = more_listed is (xs ++ listed_at None i ∷ [])

-- expressions: the row of a term's node is the last one
abbrev pub root : TermLists → ℕ
root d = length d.nodes

abbrev pub node_at : ℕ → Option ℕ → Form → Node
node_at p k f = record { place = p; driven = k; form = f }

abbrev pub digit_rows : Tree integers → TermLists → TermLists
digit_rows is d = with_digits d (listed is d.digits)

-- a node over the term before it and the term now last
abbrev pub joined : ℕ → Option ℕ → (ℕ → ℕ → Form) → TermLists → TermLists → TermLists
joined p k form before d = with_node d (node_at p k (form (root before) (root d)))

-- a node over the term now last
abbrev pub under : Tree prefix_sign → Option ℕ → TermLists → TermLists
under (left (mark_at p)) k d = with_node d (node_at p k (NotForm (root d)))
under (right (left (mark_at p))) k d = with_node d (node_at p k (Reduce AndGate (root d)))
under (right (right (left (mark_at p)))) k d = with_node d (node_at p k (Reduce OrGate (root d)))
under (right (right (right (mark_at p)))) k d = with_node d (node_at p k (Reduce XorGate (root d)))

abbrev pub literal_at : ℕ → Option ℕ → TermLists → TermLists
literal_at p k d = with_node d (node_at p k (Literal (length d.digits)))

-- the rows with those of an expression behind them; k is the last target of the statement whose value it is, none in a condition
abbrev mutual
  pub expr_rows : Tree expr → Option ℕ → TermLists → TermLists
  expr_rows (both a bs) k d = more_ors bs k (or_rows a k d)

  pub more_ors : Tree (many (mark Comma then or)) → Option ℕ → TermLists → TermLists
  more_ors end k d = d
  more_ors (more (both (mark_at p) a) bs) k d = more_ors bs k (joined p k CommaForm d (or_rows a k d))

  pub or_rows : Tree or → Option ℕ → TermLists → TermLists
  or_rows (both a bs) k d = more_xors bs k (xor_rows a k d)

  pub more_xors : Tree (many (mark Or then xor)) → Option ℕ → TermLists → TermLists
  more_xors end k d = d
  more_xors (more (both (mark_at p) a) bs) k d = more_xors bs k (joined p k (Join OrGate) d (xor_rows a k d))

  pub xor_rows : Tree xor → Option ℕ → TermLists → TermLists
  xor_rows (both a bs) k d = more_ands bs k (and_rows a k d)

  pub more_ands : Tree (many (mark Xor then and)) → Option ℕ → TermLists → TermLists
  more_ands end k d = d
  more_ands (more (both (mark_at p) a) bs) k d = more_ands bs k (joined p k (Join XorGate) d (and_rows a k d))

  pub and_rows : Tree and → Option ℕ → TermLists → TermLists
  and_rows (both a bs) k d = more_prefixes bs k (prefix_rows a k d)

  pub more_prefixes : Tree (many (mark And then prefix)) → Option ℕ → TermLists → TermLists
  more_prefixes end k d = d
  more_prefixes (more (both (mark_at p) a) bs) k d = more_prefixes bs k (joined p k (Join AndGate) d (prefix_rows a k d))

  pub prefix_rows : Tree prefix → Option ℕ → TermLists → TermLists
  prefix_rows (left (nested signed (both s a))) k d = under s k (prefix_rows a k d)
  prefix_rows (right a) k d = primary_rows a k d

  pub primary_rows : Tree primary → Option ℕ → TermLists → TermLists
  primary_rows (left r) k d = with_node d (node_at (ref_of r).name.place k (Bits (ref_of r)))
  primary_rows (right (left (both (mark_at p) (both is q)))) k d = literal_at p k (digit_rows is d)
  primary_rows (right (right (left (both n (both s m))))) k d = with_node d (node_at (number_of n).place k (Sized (number_of n) (number_of m)))
  primary_rows (right (right (right (nested group (both p (both a q)))))) k d = expr_rows a k d

-- declarations
abbrev pub width_of : Tree (maybe (mark LeftBracket then integer then mark RightBracket)) → Option Number
width_of none = None
width_of (some (both p (both i q))) = Some (number_of i)

abbrev pub item_of : Class → Tree item → Item
item_of c (both n w) = record { class = c; name = name_of n; width = width_of w }

abbrev pub more_items : Class → Tree (many (mark Semicolon then item)) → RowLists → RowLists
more_items c end d = d
more_items c (more (both p i) is) d = more_items c is (with_item d (item_of c i))

abbrev pub item_rows : Class → Tree (list_of item Semicolon) → RowLists → RowLists
item_rows c (both i is) d = more_items c is (with_item d (item_of c i))

abbrev pub class_of : Tree class → Class
class_of (left p) = Input
class_of (right (left p)) = Output
class_of (right (right (left p))) = Memory
class_of (right (right (right p))) = Bus

abbrev pub decl_rows : Tree decl → RowLists → RowLists
decl_rows (both c (both p (both is q))) d = item_rows (class_of c) is d

abbrev pub more_decls : Tree (many decl) → RowLists → RowLists
more_decls end d = d
more_decls (more a bs) d = more_decls bs (decl_rows a d)

-- targets of the statement that comes next
abbrev pub target_at : RowLists → Option ℕ → Tree ref → Target
target_at d c r = record { statement = length d.statements + 1; comma = c; reference = ref_of r }

abbrev pub more_targets : Tree (many (mark Comma then ref)) → RowLists → RowLists
more_targets end d = d
more_targets (more (both (mark_at p) r) rs) d = more_targets rs (with_target d (target_at d (Some p) r))

abbrev pub target_rows : Tree targets → RowLists → RowLists
target_rows (both r rs) d = more_targets rs (with_target d (target_at d None r))

-- the place of the first target
abbrev pub targets_place : Tree targets → ℕ
targets_place (both r rs) = (ref_of r).name.place

-- Statements. What is known of one before its value is read; its targets are the last.
pub record Head : Type 0 where
  pub place : ℕ
  pub step : Option ℕ
  pub kind : StatementKind
  pub condition : Option Condition
  pub sign : ℕ

abbrev pub statement_at : Head → RowLists → Statement
statement_at h d = record { place = h.place; step = h.step; kind = h.kind; last_target = length d.targets; condition = h.condition; sign = h.sign; value = root d.terms }

-- a statement's value, and then the statement
abbrev pub value_rows : Head → Tree expr → RowLists → RowLists
value_rows h e d =
    let after = with_terms d (expr_rows e (Some (length d.targets)) d.terms) in
    with_statement after (statement_at h after)

-- a condition's nodes
abbrev pub condition_rows : Tree expr → RowLists → RowLists
condition_rows e d = with_terms d (expr_rows e None d.terms)

abbrev pub condition_at : ℕ → RowLists → Condition
condition_at p d = record { place = p; node = root d.terms }

abbrev pub head_at : ℕ → Option ℕ → StatementKind → Option Condition → ℕ → Head
head_at p s k c q = record { place = p; step = s; kind = k; condition = c; sign = q }

-- behind CONTROLRESET
abbrev pub conn_rows : Tree conn → RowLists → RowLists
conn_rows (both ts (both (mark_at q) e)) d = value_rows (head_at (targets_place ts) None Connection None q) e (target_rows ts d)

abbrev pub more_conns : Tree (many (mark Semicolon then conn)) → RowLists → RowLists
more_conns end d = d
more_conns (more (both p c) cs) d = more_conns cs (conn_rows c d)

-- in the step s
abbrev pub stmt_rows : ℕ → Tree stmt → RowLists → RowLists
stmt_rows s (both ts (left (both (mark_at q) e))) d = value_rows (head_at (targets_place ts) (Some s) Connection None q) e (target_rows ts d)
stmt_rows s (both ts (right (left (both (mark_at q) e)))) d = value_rows (head_at (targets_place ts) (Some s) Transfer None q) e (target_rows ts d)
stmt_rows s (both ts (right (right (both (mark_at p) (both o (both c (both z (both (mark_at q) e)))))))) d =
    let after = condition_rows c (target_rows ts d) in
    value_rows (head_at (targets_place ts) (Some s) Transfer (Some (condition_at p after)) q) e after

-- exits of the step s
abbrev pub exit_at : ℕ → Listed → Exit
exit_at s x = record { step = s; entered = x }

abbrev pub exit_rows : ℕ → Tree integers → List Exit → List Exit
exit_rows s is xs = xs ++ map (exit_at s) (listed is [])

-- how the step s is left, and the rows with those of its action
abbrev pub Left : Type 0
Left = Leaving × RowLists

abbrev pub branch_rows : ℕ → Tree branch → RowLists → Left
branch_rows s (both b (both o (one (both is z)))) d = (Plain, with_exits d (exit_rows s is d.exits))
branch_rows s (both b (both o (other (both c (both z (both (mark_at p) (both q (both is y)))))))) d =
    let after = condition_rows c d in
    let all = with_exits after (exit_rows s is after.exits) in
    (Conditions (condition_at p after) (length all.exits), all)

abbrev pub series_rows : ℕ → Tree (series stmt Semicolon branch) → RowLists → Left
series_rows s (last t) d = (Next, stmt_rows s t d)
series_rows s (closing b) d = branch_rows s b d
series_rows s (next t p rest) d = series_rows s rest (stmt_rows s t d)

abbrev pub action_rows : ℕ → Tree action → RowLists → Left
action_rows s (left p) d = (Next, d)
action_rows s (right (left p)) d = (Dead, d)
action_rows s (right (right a)) d = series_rows s a d

abbrev pub step_at : Tree integer → Left → RowLists
step_at i x = with_step x.1 (record { integer = number_of i; leaving = x.0 })

abbrev pub step_rows : Tree step → RowLists → RowLists
step_rows (both i (both a p)) d = step_at i (action_rows (length d.steps + 1) a d)

abbrev pub more_steps : Tree (many step) → RowLists → RowLists
more_steps end d = d
more_steps (more s ss) d = more_steps ss (step_rows s d)

-- the whole module
pub record DraftLists : Type 0 where
  pub heading : Heading
  pub rows : RowLists

abbrev pub draft_lists : Draft → DraftLists
draft_lists d = record {
  heading = d.heading;
  rows = record {
    items = d.items.now;
    steps = d.steps.now;
    statements = d.statements.now;
    targets = d.targets.now;
    exits = d.exits.now;
    resets = d.resets.now;
    terms = record { nodes = d.nodes.now; digits = d.digits.now };
  };
}

abbrev pub no_rows : RowLists
no_rows = record { items = []; steps = []; statements = []; targets = []; exits = []; resets = []; terms = record { nodes = []; digits = [] } }

-- steps that CONTROLRESET enters
abbrev pub reset_rows : Tree integers → RowLists → RowLists
reset_rows is d = with_resets d (listed is d.resets)

unfoldable pub draft_of : Tree unit → DraftLists
draft_of (both a (both b (both n (both c (both d (both ds (both e (both f (both g (both k (both h (both s (both ss (both i (both j (both l (both is (both m (both cs z))))))))))))))))))) =
    record {
      heading = record { title = name_of n; clock = name_of k };
      rows = more_conns cs (reset_rows is (more_steps ss (step_rows s (more_decls ds (decl_rows d no_rows)))));
    }
