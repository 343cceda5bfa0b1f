-- What is decided of rows that may hold anything. Assumes nothing.
use Rattle.std.specs.Prelude.{ℕ, ◌+◌, ◌≤◌, length, sum_by}
use Rattle.least.specs.Each.{IsRow}
use Rattle.symbols.specs.Items.{most_declared_bits}
use Rattle.database.specs.Codes.{step_kind}
use Rattle.database.specs.Rows.{Database, symbol, step, statement, target, exit, node}
use Rattle.database.specs.Soundness.{Few, SymbolSound, StepSound, Closes, StatementSound, TargetSound, ExitSound, NodeSound}

-- What the soundness of a database says row by row: all of it but how rows are laid out, and what stands on the two sides of a statement.
pub record RowsSound (bytes : ℕ) (d : Database) : Type 0 where
  pub few : Few d
  pub symbols : (n : ℕ) → IsRow d.symbols n → SymbolSound bytes (symbol d n)
  pub in_order : (n : ℕ) → IsRow d.symbols n → IsRow d.symbols (n + 1) → (symbol d n).place + (symbol d n).length ≤ (symbol d (n + 1)).place
  pub bits : sum_by (λ x. x.width) d.symbols ≤ most_declared_bits
  pub some_step : 1 ≤ length d.steps
  pub steps : (n : ℕ) → IsRow d.steps n → StepSound (step d n)
  pub closes : Closes (step_kind (step d (length d.steps)).kind)
  pub statements : (n : ℕ) → IsRow d.statements n → StatementSound d (statement d n)
  pub targets : (n : ℕ) → IsRow d.targets n → TargetSound d (target d n)
  pub exits : (n : ℕ) → IsRow d.exits n → ExitSound d (exit d n)
  pub nodes : (n : ℕ) → IsRow d.nodes n → NodeSound d (node d n)
