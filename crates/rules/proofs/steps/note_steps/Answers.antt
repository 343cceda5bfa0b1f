use Rattle.std.proofs.Common.{length}
use Rattle.least.proofs.Notes.{rows_turn, each_end}
use Rattle.rules.specs.Steps.{step_faults}
use Rattle.rules.proofs.steps.note_steps.Goals as goal

pub loop-rows-preserved : goal.loop-rows-preserved
loop-rows-preserved c = rows_turn (step_faults c.args.widths.now c.args.counts.now (length c.args.steps.now)) c.args.steps.now c.loop-rows.rows _ c.loop-rows-test.true c.loop-rows.invariant c.note_step.ensures

pub returns : goal.returns
returns c = each_end (λ before s. step_faults c.args.widths.now c.args.counts.now (length c.args.steps.now) (length before) s) c.args.steps.now c.loop-rows.rows c.loop-rows-test.false c.loop-rows.invariant
