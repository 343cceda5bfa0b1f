use Rattle.std.proofs.Common.{◌≡◌, drop}
use Rattle.rules.specs.Steps.{is_step}
use Rattle.rules.proofs.steps.is_step.Given as goal

abbrev pub invariant-loop-step : goal.invariant-loop-step
invariant-loop-step l = is_step l.steps l.integer ≡ is_step (drop l.step-index l.steps) l.integer
