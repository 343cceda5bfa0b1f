use Rattle.database.specs.Rows.{no_target}
use Rattle.database.specs.Soundness.{TargetSound}
use Rattle.control.specs.Databases.{rows_of}
use Rattle.inspect_rows.proofs.Passed.{Passed}
use Rattle.inspect_rows.proofs.statements.targets_are_sound.Given as goal

abbrev pub invariant-loop-target : goal.invariant-loop-target
invariant-loop-target l = Passed no_target (TargetSound (rows_of l.rows)) l.target-items l.target-index
