use Rattle.database.specs.Rows.{no_exit}
use Rattle.database.specs.Soundness.{ExitSound}
use Rattle.control.specs.Databases.{rows_of}
use Rattle.inspect_rows.proofs.Passed.{Passed}
use Rattle.inspect_rows.proofs.steps.exits_are_sound.Given as goal

abbrev pub invariant-loop-exit : goal.invariant-loop-exit
invariant-loop-exit l = Passed no_exit (ExitSound (rows_of l.rows)) l.exit-items l.exit-index
