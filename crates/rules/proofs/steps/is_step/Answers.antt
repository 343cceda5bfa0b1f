use Rattle.std.proofs.Common.{◌+◌, ◌||◌, drop, sym, ap, ◌∙◌}
use Rattle.std.proofs.lemmas.List.{at_drop_more, at_drop_all}
use Rattle.std.proofs.lemmas.Bool.{eq-eqb, ne_eqb}
use Rattle.rules.specs.Steps.{is_step}
use Rattle.rules.proofs.steps.is_step.Goals as goal

pub returns-then-step-integer : goal.returns-then-step-integer
returns-then-step-integer c =
    let rest = c.loop-step.step-index + 1 in
    sym (c.loop-step.invariant ∙ at_drop_more (λ steps. is_step steps c.args.integer) c.args.steps.now c.loop-step.step-index _ c.loop-step-test.true
    ∙ ap (λ t. t || is_step (drop rest c.args.steps.now) c.args.integer) (eq-eqb _ _ c.if-step-integer.true))

pub loop-step-preserved : goal.loop-step-preserved
loop-step-preserved c =
    let rest = c.loop-step.step-index + 1 in
    c.loop-step.invariant ∙ at_drop_more (λ steps. is_step steps c.args.integer) c.args.steps.now c.loop-step.step-index _ c.loop-step-test.true
    ∙ ap (λ t. t || is_step (drop rest c.args.steps.now) c.args.integer) (ne_eqb _ _ c.if-step-integer.false)

pub returns : goal.returns
returns c = sym (c.loop-step.invariant ∙ at_drop_all (λ steps. is_step steps c.args.integer) c.args.steps.now c.loop-step.step-index c.loop-step-test.false)
