use Rattle.control.specs.Databases.{rows_of}
use Rattle.database.specs.Rows.{no_statement}
use Rattle.database.specs.Soundness.{StatementSound}
use Rattle.inspect_rows.proofs.Passed.{is_next}
use Rattle.inspect_rows.proofs.statements.statements_are_sound.Goals as goal

pub returns-then-not-statement_is_sound : goal.returns-then-not-statement_is_sound
returns-then-not-statement_is_sound c all = c.if-not-statement_is_sound.ensures (is_next no_statement (StatementSound (rows_of c.args.rows.now)) c.args.rows.now.statements.now c.loop-statement.statement-index c.loop-statement-test.true all)
