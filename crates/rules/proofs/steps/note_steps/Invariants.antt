use Rattle.std.proofs.Common.{length, take}
use Rattle.least.specs.Order.{Notes}
use Rattle.least.specs.Each.{each}
use Rattle.rules.specs.Steps.{step_faults}
use Rattle.rules.proofs.steps.note_steps.Given as goal

abbrev pub invariant-loop-rows : goal.invariant-loop-rows
invariant-loop-rows l = Notes l.initial.least (each (λ before s. step_faults l.widths l.counts (length l.steps) (length before) s) (take l.rows l.steps)) l.least
