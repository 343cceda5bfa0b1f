-- Databases that stand in lent tables. Assumes nothing.
use Rattle.std.specs.Prelude.{◌≡◌, ℕ, List, ◌++◌, replicate}
use Rattle.database.specs.Rows.{Database, no_symbol, no_step, no_statement, no_target, no_exit, no_node}
use Rattle.control.specs.declared.rows.Rows.{Rows}

-- the rows of lent tables
abbrev pub rows_of : Rows → Database
rows_of t = record {
  symbols = t.symbols.now;
  steps = t.steps.now;
  statements = t.statements.now;
  targets = t.targets.now;
  exits = t.exits.now;
  nodes = t.nodes.now;
}

-- a table begins with rows, and all others are zero
abbrev pub Begins : {A : Type 0} → A → List A → List A → Type 0
Begins none rows table = (unused : ℕ) × (table ≡ rows ++ replicate unused none)

-- The tables hold the database: its rows, and zeros behind them.
pub record Hold (d : Database) (t : Database) : Type 0 where
  pub symbols : Begins no_symbol d.symbols t.symbols
  pub steps : Begins no_step d.steps t.steps
  pub statements : Begins no_statement d.statements t.statements
  pub targets : Begins no_target d.targets t.targets
  pub exits : Begins no_exit d.exits t.exits
  pub nodes : Begins no_node d.nodes t.nodes
