use Rattle.control.specs.Databases.{rows_of}
use Rattle.database.specs.Rows.{no_exit}
use Rattle.database.specs.Soundness.{ExitSound}
use Rattle.inspect_rows.proofs.Passed.{is_next}
use Rattle.inspect_rows.proofs.steps.exits_are_sound.Goals as goal

pub returns-then-not-exit_is_sound : goal.returns-then-not-exit_is_sound
returns-then-not-exit_is_sound c all = c.if-not-exit_is_sound.ensures (is_next no_exit (ExitSound (rows_of c.args.rows.now)) c.args.rows.now.exits.now c.loop-exit.exit-index c.loop-exit-test.true all)
