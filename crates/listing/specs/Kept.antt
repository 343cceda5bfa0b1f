-- What six tables of a program's own hold. Assumes nothing.
use Rattle.std.specs.Prelude.{◌≡◌, ℕ, List, replicate}
use Rattle.symbols.specs.Items.{most_symbols}
use Rattle.rules.specs.Targets.{most_targets}
use Rattle.rules.specs.Nodes.{most_nodes}
use Rattle.rules.specs.Steps.{most_steps, most_statements, most_exits}
use Rattle.database.specs.Tables.{TableLists}
use Rattle.database.specs.declared.rows.SymbolRow.{SymbolRow}
use Rattle.database.specs.declared.rows.StepRow.{StepRow}
use Rattle.database.specs.declared.rows.StatementRow.{StatementRow}
use Rattle.database.specs.declared.rows.TargetRow.{TargetRow}
use Rattle.database.specs.declared.rows.ExitRow.{ExitRow}
use Rattle.database.specs.declared.rows.NodeRow.{NodeRow}
use Rattle.listing.specs.declared.kept.Kept.{Kept}

-- all rows of six tables
abbrev pub six_lists : List SymbolRow → List StepRow → List StatementRow → List TargetRow → List ExitRow → List NodeRow → TableLists
six_lists symbols steps statements targets exits nodes = record { symbols = symbols; steps = steps; statements = statements; targets = targets; exits = exits; nodes = nodes }

abbrev pub kept_lists : Kept → TableLists
kept_lists kept = six_lists kept.symbols.items kept.steps.items kept.statements.items kept.targets.items kept.exits.items kept.nodes.items

-- each table has its size, and every column of every row is this number
pub record HoldsAlone (n : ℕ) (kept : Kept) : Type 0 where
  pub symbols : kept.symbols.items ≡ replicate most_symbols (record { class = n; width = n; place = n; length = n })
  pub steps : kept.steps.items ≡ replicate most_steps (record { kind = n; condition = n; reset = n })
  pub statements : kept.statements.items ≡ replicate most_statements (record { step = n; kind = n; condition = n; value = n })
  pub targets : kept.targets.items ≡ replicate most_targets (record { statement = n; symbol = n; first = n; last = n })
  pub exits : kept.exits.items ≡ replicate most_exits (record { left = n; entered = n })
  pub nodes : kept.nodes.items ≡ replicate most_nodes (record { sign = n; symbol = n; first = n; last = n; left = n; right = n; width = n; value = n })
