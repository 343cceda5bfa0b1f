use Rattle.std.proofs.Common.{◌+◌, ◌==◌, not, ap}
use Rattle.least.specs.declared.rule.Rule.TheVariants.{StepInteger, LastStep}
use Rattle.least.proofs.Notes.{then, by_test}
use Rattle.rules.proofs.steps.note_step.Goals as goal

pub returns : goal.returns
returns c =
    let place = c.args.step.integer.place in
    then (then (then
    (by_test _ _ place StepInteger (ap (λ n. not (n == c.args.rows + 1)) c.from.ensures) c.note_if.ensures)
    (by_test _ _ place LastStep c.leaves_last-last_goes_on.ensures c.note_if-2.ensures))
    c.note_overflow.ensures.notes)
    c.note_branch.ensures
