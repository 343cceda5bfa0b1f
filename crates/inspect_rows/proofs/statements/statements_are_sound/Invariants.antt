use Rattle.database.specs.Rows.{no_statement}
use Rattle.database.specs.Soundness.{StatementSound}
use Rattle.control.specs.Databases.{rows_of}
use Rattle.inspect_rows.proofs.Passed.{Passed}
use Rattle.inspect_rows.proofs.statements.statements_are_sound.Given as goal

abbrev pub invariant-loop-statement : goal.invariant-loop-statement
invariant-loop-statement l = Passed no_statement (StatementSound (rows_of l.rows)) l.statement-items l.statement-index
