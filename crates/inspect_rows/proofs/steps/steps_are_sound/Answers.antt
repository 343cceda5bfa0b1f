use Rattle.database.specs.Rows.{no_step}
use Rattle.database.specs.Soundness.{StepSound}
use Rattle.inspect_rows.proofs.Passed.{is_next}
use Rattle.inspect_rows.proofs.steps.steps_are_sound.Goals as goal

pub returns-then-not-step_is_sound : goal.returns-then-not-step_is_sound
returns-then-not-step_is_sound c all = c.if-not-step_is_sound.ensures (is_next no_step StepSound c.args.steps.now c.loop-step.step-index c.loop-step-test.true all)
