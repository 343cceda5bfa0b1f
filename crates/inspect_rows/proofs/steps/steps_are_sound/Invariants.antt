use Rattle.database.specs.Rows.{no_step}
use Rattle.database.specs.Soundness.{StepSound}
use Rattle.inspect_rows.proofs.Passed.{Passed}
use Rattle.inspect_rows.proofs.steps.steps_are_sound.Given as goal

abbrev pub invariant-loop-step : goal.invariant-loop-step
invariant-loop-step l = Passed no_step StepSound l.steps l.step-index
