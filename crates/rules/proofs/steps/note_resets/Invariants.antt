use Rattle.std.proofs.Common.{take}
use Rattle.least.specs.Order.{Notes}
use Rattle.rules.specs.Steps.{resets_faults}
use Rattle.rules.proofs.steps.note_resets.Given as goal

abbrev pub invariant-loop-named : goal.invariant-loop-named
invariant-loop-named l = Notes l.initial.least (resets_faults l.steps (take l.named-index l.resets)) l.least
