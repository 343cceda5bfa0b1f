-- What private functions promise. Assumes nothing.
use Rattle.std.specs.Prelude.{◌≡◌, ℕ, ◌≤◌, Bool, ◌&&◌, ◌||◌, nat_lt, ◌==◌, List, length}
use Rattle.least.specs.Each.{last_of}
use Rattle.database.specs.Rows.{Database, no_symbol, no_step, no_statement, no_target, no_exit, no_node}
use Rattle.control.specs.Points.{rank_of}

-- the last row, if there is one, is in use
abbrev pub EndsInUse : {A : Type 0} → A → List A → Type 0
EndsInUse none rows = 1 ≤ length rows → ¬ (last_of none rows ≡ none)

-- the same of all six tables
pub record AllEndInUse (d : Database) : Type 0 where
  pub symbols : EndsInUse no_symbol d.symbols
  pub steps : EndsInUse no_step d.steps
  pub statements : EndsInUse no_statement d.statements
  pub targets : EndsInUse no_target d.targets
  pub exits : EndsInUse no_exit d.exits
  pub nodes : EndsInUse no_node d.nodes

-- a symbol has a lower rank, or that rank and a lower number: `ahead` is this of a symbol's own rank and number, other counts need other ones
abbrev pub before : Database → ℕ → ℕ → ℕ → Bool
before d place number z = nat_lt (rank_of d z) place || (rank_of d z == place && nat_lt z number)
