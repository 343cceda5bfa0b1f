use Rattle.std.proofs.Common.{take}
use Rattle.least.specs.Order.{Notes}
use Rattle.rules.specs.Steps.{statements_faults}
use Rattle.rules.proofs.steps.note_statements.Given as goal

abbrev pub invariant-loop-rows : goal.invariant-loop-rows
invariant-loop-rows l = Notes l.initial.least (statements_faults l.sides l.widths (take l.rows l.statements)) l.least
