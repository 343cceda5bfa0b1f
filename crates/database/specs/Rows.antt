-- The rows of a database that are in use, by their numbers, which count from 1. Assumes nothing.
use Rattle.std.specs.Prelude.{ℕ, List, length}
use Rattle.least.specs.Each.{row_at}
use Rattle.database.specs.declared.rows.SymbolRow.{SymbolRow}
use Rattle.database.specs.declared.rows.StepRow.{StepRow}
use Rattle.database.specs.declared.rows.StatementRow.{StatementRow}
use Rattle.database.specs.declared.rows.TargetRow.{TargetRow}
use Rattle.database.specs.declared.rows.ExitRow.{ExitRow}
use Rattle.database.specs.declared.rows.NodeRow.{NodeRow}
use Rattle.database.specs.declared.tables.Counts.{Counts}

pub record Database : Type 0 where
  pub symbols : List SymbolRow
  pub steps : List StepRow
  pub statements : List StatementRow
  pub targets : List TargetRow
  pub exits : List ExitRow
  pub nodes : List NodeRow

-- how many rows of each table are in use
abbrev pub counts_of : Database → Counts
counts_of d = record {
  symbols = length d.symbols;
  steps = length d.steps;
  statements = length d.statements;
  targets = length d.targets;
  exits = length d.exits;
  nodes = length d.nodes;
}

-- an unused row
abbrev pub no_symbol : SymbolRow
no_symbol = record { class = 0; width = 0; place = 0; length = 0 }

abbrev pub no_step : StepRow
no_step = record { kind = 0; condition = 0; reset = 0 }

abbrev pub no_statement : StatementRow
no_statement = record { step = 0; kind = 0; condition = 0; value = 0 }

abbrev pub no_target : TargetRow
no_target = record { statement = 0; symbol = 0; first = 0; last = 0 }

abbrev pub no_exit : ExitRow
no_exit = record { left = 0; entered = 0 }

abbrev pub no_node : NodeRow
no_node = record { sign = 0; symbol = 0; first = 0; last = 0; left = 0; right = 0; width = 0; value = 0 }

-- the row of that number
abbrev pub symbol : Database → ℕ → SymbolRow
symbol d n = row_at no_symbol d.symbols n

abbrev pub step : Database → ℕ → StepRow
step d n = row_at no_step d.steps n

abbrev pub statement : Database → ℕ → StatementRow
statement d n = row_at no_statement d.statements n

abbrev pub target : Database → ℕ → TargetRow
target d n = row_at no_target d.targets n

abbrev pub exit : Database → ℕ → ExitRow
exit d n = row_at no_exit d.exits n

abbrev pub node : Database → ℕ → NodeRow
node d n = row_at no_node d.nodes n
