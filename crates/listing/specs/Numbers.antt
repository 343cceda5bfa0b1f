-- The numbers in the columns of a row, in their order. Assumes nothing.
use Rattle.std.specs.Prelude.{ℕ, List, [], ◌∷◌}
use Rattle.database.specs.declared.rows.SymbolRow.{SymbolRow}
use Rattle.database.specs.declared.rows.StepRow.{StepRow}
use Rattle.database.specs.declared.rows.StatementRow.{StatementRow}
use Rattle.database.specs.declared.rows.TargetRow.{TargetRow}
use Rattle.database.specs.declared.rows.ExitRow.{ExitRow}
use Rattle.database.specs.declared.rows.NodeRow.{NodeRow}

abbrev pub symbol_numbers : SymbolRow → List ℕ
symbol_numbers row = row.class ∷ row.width ∷ row.place ∷ row.length ∷ []

abbrev pub step_numbers : StepRow → List ℕ
step_numbers row = row.kind ∷ row.condition ∷ row.reset ∷ []

abbrev pub statement_numbers : StatementRow → List ℕ
statement_numbers row = row.step ∷ row.kind ∷ row.condition ∷ row.value ∷ []

abbrev pub target_numbers : TargetRow → List ℕ
target_numbers row = row.statement ∷ row.symbol ∷ row.first ∷ row.last ∷ []

abbrev pub exit_numbers : ExitRow → List ℕ
exit_numbers row = row.left ∷ row.entered ∷ []

abbrev pub node_numbers : NodeRow → List ℕ
node_numbers row = row.sign ∷ row.symbol ∷ row.first ∷ row.last ∷ row.left ∷ row.right ∷ row.width ∷ row.value ∷ []
