-- What the six tables hold. Assumes nothing.
use Rattle.std.specs.Prelude.{◌≡◌, ℕ, ◌-◌, ◌≤◌, Bool, ◌||◌, nat_lt, List, ◌++◌, length, take, replicate}
use Rattle.symbols.specs.Items.{most_symbols}
use Rattle.rules.specs.Targets.{most_targets}
use Rattle.rules.specs.Nodes.{most_nodes}
use Rattle.rules.specs.Steps.{most_steps, most_statements, most_exits}
use Rattle.database.specs.declared.rows.SymbolRow.{SymbolRow}
use Rattle.database.specs.declared.rows.StepRow.{StepRow}
use Rattle.database.specs.declared.rows.StatementRow.{StatementRow}
use Rattle.database.specs.declared.rows.TargetRow.{TargetRow}
use Rattle.database.specs.declared.rows.ExitRow.{ExitRow}
use Rattle.database.specs.declared.rows.NodeRow.{NodeRow}
use Rattle.database.specs.declared.tables.Tables.{Tables}
use Rattle.database.specs.Rows.{Database, no_symbol, no_step, no_statement, no_target, no_exit, no_node}

-- all rows of six tables
pub record TableLists : Type 0 where
  pub symbols : List SymbolRow
  pub steps : List StepRow
  pub statements : List StatementRow
  pub targets : List TargetRow
  pub exits : List ExitRow
  pub nodes : List NodeRow

abbrev pub table_lists : Tables → TableLists
table_lists t = record {
  symbols = t.symbols.now;
  steps = t.steps.now;
  statements = t.statements.now;
  targets = t.targets.now;
  exits = t.exits.now;
  nodes = t.nodes.now;
}

-- the tables are the same ones: none was exchanged for another
pub record SameTables (old new : Tables) : Type 0 where
  pub symbols : new.symbols.ghost_name ≡ old.symbols.ghost_name
  pub steps : new.steps.ghost_name ≡ old.steps.ghost_name
  pub statements : new.statements.ghost_name ≡ old.statements.ghost_name
  pub targets : new.targets.ghost_name ≡ old.targets.ghost_name
  pub exits : new.exits.ghost_name ≡ old.exits.ghost_name
  pub nodes : new.nodes.ghost_name ≡ old.nodes.ghost_name

-- a table is shorter than its size
abbrev pub is_short : TableLists → Bool
is_short t =
    nat_lt (length t.symbols) most_symbols || nat_lt (length t.steps) most_steps || nat_lt (length t.statements) most_statements
    || nat_lt (length t.targets) most_targets || nat_lt (length t.exits) most_exits || nat_lt (length t.nodes) most_nodes

-- a table of so many rows that begins with these; unused rows are zero
abbrev pub filled : {A : Type 0} → A → ℕ → List A → List A
filled none size rows = rows ++ replicate (size - length rows) none

-- the tables hold the database, and are as long as they were
pub record Holds (d : Database) (old new : TableLists) : Type 0 where
  pub symbols : new.symbols ≡ filled no_symbol (length old.symbols) d.symbols
  pub steps : new.steps ≡ filled no_step (length old.steps) d.steps
  pub statements : new.statements ≡ filled no_statement (length old.statements) d.statements
  pub targets : new.targets ≡ filled no_target (length old.targets) d.targets
  pub exits : new.exits ≡ filled no_exit (length old.exits) d.exits
  pub nodes : new.nodes ≡ filled no_node (length old.nodes) d.nodes

-- all rows of all tables are zero
pub record Zeroed (old new : TableLists) : Type 0 where
  pub symbols : new.symbols ≡ replicate (length old.symbols) no_symbol
  pub steps : new.steps ≡ replicate (length old.steps) no_step
  pub statements : new.statements ≡ replicate (length old.statements) no_statement
  pub targets : new.targets ≡ replicate (length old.targets) no_target
  pub exits : new.exits ≡ replicate (length old.exits) no_exit
  pub nodes : new.nodes ≡ replicate (length old.nodes) no_node

-- the database has no more rows than the tables
pub record Fits (d : Database) (t : TableLists) : Type 0 where
  pub symbols : length d.symbols ≤ length t.symbols
  pub steps : length d.steps ≤ length t.steps
  pub statements : length d.statements ≤ length t.statements
  pub targets : length d.targets ≤ length t.targets
  pub exits : length d.exits ≤ length t.exits
  pub nodes : length d.nodes ≤ length t.nodes

-- of a database, the rows for which the tables have room
abbrev pub fitting : TableLists → Database → Database
fitting t d = record {
  symbols = take (length t.symbols) d.symbols;
  steps = take (length t.steps) d.steps;
  statements = take (length t.statements) d.statements;
  targets = take (length t.targets) d.targets;
  exits = take (length t.exits) d.exits;
  nodes = take (length t.nodes) d.nodes;
}
