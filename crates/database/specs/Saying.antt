-- The database that a draft says. Assumes nothing.
use Rattle.std.specs.Prelude.{ℕ, ◌+◌, ◌-◌, ◌%◌, ◌^◌, Bool, false, ◌||◌, List, [], ◌∷◌, Option, Some, None, unwrap_or, ◌==◌}
use Rattle.grammar.specs.declared.draft.Gate.{Gate}
use Rattle.grammar.specs.declared.draft.Gate.TheVariants.{And, Or, Xor}
use Rattle.grammar.specs.declared.draft.Item.{Item}
use Rattle.grammar.specs.declared.draft.Listed.{Listed}
use Rattle.grammar.specs.declared.draft.Subscript.{Subscript}
use Rattle.grammar.specs.declared.draft.Reference.{Reference}
use Rattle.grammar.specs.declared.draft.Condition.{Condition}
use Rattle.grammar.specs.declared.draft.Target.{Target}
use Rattle.grammar.specs.declared.draft.Statement.{Statement}
use Rattle.grammar.specs.declared.draft.Leaving.{Leaving}
use Rattle.grammar.specs.declared.draft.Leaving.TheVariants.{Next, Plain, Conditions, Dead}
use Rattle.grammar.specs.declared.draft.Step.{Step}
use Rattle.grammar.specs.declared.draft.Exit.{Exit}
use Rattle.grammar.specs.declared.draft.Form.{Form}
use Rattle.grammar.specs.declared.draft.Form.TheVariants.{Bits, Literal, Sized, Comma, Join, Not, Reduce}
use Rattle.grammar.specs.Drafts.{DraftLists}
use Rattle.least.specs.Each.{numbered}
use Rattle.symbols.specs.declared.references.Standing.{Standing}
use Rattle.symbols.specs.declared.references.Standing.TheVariants.{Read}
use Rattle.symbols.specs.Items.{written}
use Rattle.symbols.specs.Widths.{width_at}
use Rattle.symbols.specs.References.{symbol_at, symbol_width}
use Rattle.rules.specs.declared.measures.BitString.{BitString}
use Rattle.rules.specs.Targets.{target_standing}
use Rattle.rules.specs.Strings.{strings, string_at}
use Rattle.rules.specs.Faults.{node_widths}
use Rattle.database.specs.declared.codes.StepKind.{StepKind}
use Rattle.database.specs.declared.codes.StepKind.TheVariants.{Next as NextKind, Branch as BranchKind, Conditions as ConditionsKind, DeadEnd as DeadEndKind}
use Rattle.database.specs.declared.codes.NodeSign.{NodeSign}
use Rattle.database.specs.declared.codes.NodeSign.TheVariants.{Name as NameSign, Constant as ConstantSign, Comma as CommaSign, And as AndSign, Or as OrSign, Xor as XorSign, Not as NotSign, AndReduce as AndReduceSign, OrReduce as OrReduceSign, XorReduce as XorReduceSign}
use Rattle.database.specs.declared.rows.SymbolRow.{SymbolRow}
use Rattle.database.specs.declared.rows.StepRow.{StepRow}
use Rattle.database.specs.declared.rows.StatementRow.{StatementRow}
use Rattle.database.specs.declared.rows.TargetRow.{TargetRow}
use Rattle.database.specs.declared.rows.ExitRow.{ExitRow}
use Rattle.database.specs.declared.rows.NodeRow.{NodeRow}
use Rattle.database.specs.declared.rows.NamedBits.{NamedBits}
use Rattle.database.specs.Codes.{class_code, step_code, statement_code, sign_code, mark}
use Rattle.database.specs.Rows.{Database}

-- symbols
abbrev pub symbol_row : Item → SymbolRow
symbol_row x = record { class = class_code x.class; width = written x.width; place = x.name.place; length = x.name.len }

-- steps: CONTROLRESET names the step
abbrev pub is_reset : List Listed → ℕ → Bool
is_reset [] n = false
is_reset (r ∷ rs) n = r.integer.value == n || is_reset rs n

abbrev pub kind_of : Leaving → StepKind
kind_of Next = NextKind
kind_of Plain = BranchKind
kind_of (Conditions c last) = ConditionsKind
kind_of Dead = DeadEndKind

abbrev pub branch_node : Leaving → ℕ
branch_node Next = 0
branch_node Plain = 0
branch_node (Conditions c last) = c.node
branch_node Dead = 0

abbrev pub step_row : List Listed → ℕ → Step → StepRow
step_row resets n s = record { kind = step_code (kind_of s.leaving); condition = branch_node s.leaving; reset = mark (is_reset resets n) }

-- statements
abbrev pub condition_node : Option Condition → ℕ
condition_node None = 0
condition_node (Some c) = c.node

abbrev pub statement_row : Statement → StatementRow
statement_row s = record { step = unwrap_or s.step 0; kind = statement_code s.kind; condition = condition_node s.condition; value = s.value }

-- what a reference names, the row of the symbol and the bits: a name alone is the whole symbol
abbrev pub symbol_number : Option ℕ → ℕ
symbol_number None = 0
symbol_number (Some k) = k + 1

abbrev pub first_bit : Option Subscript → ℕ
first_bit None = 0
first_bit (Some s) = s.first

abbrev pub last_bit : Option ℕ → Option Subscript → ℕ
last_bit width None = unwrap_or width 0 - 1
last_bit width (Some s) = s.last

abbrev pub named_bits : List ℕ → List Item → Standing → Reference → NamedBits
named_bits text items s r = record {
  symbol = symbol_number (symbol_at text items s r.name);
  first = first_bit r.subscript;
  last = last_bit (symbol_width items (symbol_at text items s r.name)) r.subscript;
}

-- targets
abbrev pub driven_row : ℕ → NamedBits → TargetRow
driven_row n bits = record { statement = n; symbol = bits.symbol; first = bits.first; last = bits.last }

abbrev pub target_row : List ℕ → List Item → List Statement → Target → TargetRow
target_row text items statements t = driven_row t.statement (named_bits text items (target_standing statements t) t.reference)

-- exits
abbrev pub exit_row : Exit → ExitRow
exit_row e = record { left = e.step; entered = e.entered.integer.value }

-- nodes
abbrev pub gate_sign : Gate → NodeSign
gate_sign And = AndSign
gate_sign Or = OrSign
gate_sign Xor = XorSign

abbrev pub reduce_sign : Gate → NodeSign
reduce_sign And = AndReduceSign
reduce_sign Or = OrReduceSign
reduce_sign Xor = XorReduceSign

-- the value of n$m
abbrev pub sized_value : ℕ → ℕ → ℕ
sized_value n m = m % 2 ^ n

abbrev pub name_row : NamedBits → ℕ → NodeRow
name_row bits width = record { sign = sign_code NameSign; symbol = bits.symbol; first = bits.first; last = bits.last; left = 0; right = 0; width = width; value = 0 }

abbrev pub constant_row : ℕ → ℕ → NodeRow
constant_row width value = record { sign = sign_code ConstantSign; symbol = 0; first = 0; last = 0; left = 0; right = 0; width = width; value = value }

abbrev pub operator_row : NodeSign → ℕ → ℕ → ℕ → NodeRow
operator_row sign left right width = record { sign = sign_code sign; symbol = 0; first = 0; last = 0; left = left; right = right; width = width; value = 0 }

abbrev pub node_row : List ℕ → List Item → List BitString → ℕ → Form → NodeRow
node_row text items strings width (Bits r) = name_row (named_bits text items Read r) width
node_row text items strings width (Literal d) = constant_row width (string_at strings d).value
node_row text items strings width (Sized n m) = constant_row width (sized_value n.value m.value)
node_row text items strings width (Comma a b) = operator_row CommaSign a b width
node_row text items strings width (Join g a b) = operator_row (gate_sign g) a b width
node_row text items strings width (Not a) = operator_row NotSign a 0 width
node_row text items strings width (Reduce g a) = operator_row (reduce_sign g) a 0 width

-- the rows of each table
abbrev pub symbol_rows : DraftLists → List SymbolRow
symbol_rows d = numbered (λ n x. symbol_row x) d.rows.items

abbrev pub step_rows : DraftLists → List StepRow
step_rows d = numbered (step_row d.rows.resets) d.rows.steps

abbrev pub statement_rows : DraftLists → List StatementRow
statement_rows d = numbered (λ n s. statement_row s) d.rows.statements

abbrev pub target_rows : List ℕ → DraftLists → List TargetRow
target_rows text d = numbered (λ n t. target_row text d.rows.items d.rows.statements t) d.rows.targets

abbrev pub exit_rows : DraftLists → List ExitRow
exit_rows d = numbered (λ n e. exit_row e) d.rows.exits

abbrev pub node_rows : List ℕ → DraftLists → List BitString → List (Option ℕ) → List NodeRow
node_rows text d strings widths = numbered (λ n x. node_row text d.rows.items strings (unwrap_or (width_at widths n) 0) x.form) d.rows.terms.nodes

-- the rows of a draft whose bit strings and widths of nodes are these
abbrev pub rows_by : List ℕ → DraftLists → List BitString → List (Option ℕ) → Database
rows_by text d strings widths = record {
  symbols = symbol_rows d;
  steps = step_rows d;
  statements = statement_rows d;
  targets = target_rows text d;
  exits = exit_rows d;
  nodes = node_rows text d strings widths;
}

-- the database
unfoldable pub database_of : List ℕ → DraftLists → Database
database_of text d = rows_by text d (strings d.rows.terms.digits) (node_widths text d)
