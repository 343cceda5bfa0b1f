use Rattle.least.proofs.Notes.{rows_turn, each_end}
use Rattle.rules.specs.Steps.{missing}
use Rattle.rules.proofs.steps.note_resets.Goals as goal

pub loop-named-preserved : goal.loop-named-preserved
loop-named-preserved c = rows_turn (λ _ n. missing c.args.steps.now n.integer) c.args.resets.now c.loop-named.named-index _ c.loop-named-test.true c.loop-named.invariant c.note_missing.ensures

pub returns : goal.returns
returns c = each_end (λ _ n. missing c.args.steps.now n.integer) c.args.resets.now c.loop-named.named-index c.loop-named-test.false c.loop-named.invariant
