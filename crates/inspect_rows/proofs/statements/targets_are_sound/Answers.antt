use Rattle.control.specs.Databases.{rows_of}
use Rattle.database.specs.Rows.{no_target}
use Rattle.database.specs.Soundness.{TargetSound}
use Rattle.inspect_rows.proofs.Passed.{is_next}
use Rattle.inspect_rows.proofs.statements.targets_are_sound.Goals as goal

pub returns-then-not-target_is_sound : goal.returns-then-not-target_is_sound
returns-then-not-target_is_sound c all = c.if-not-target_is_sound.ensures (is_next no_target (TargetSound (rows_of c.args.rows.now)) c.args.rows.now.targets.now c.loop-target.target-index c.loop-target-test.true all)
