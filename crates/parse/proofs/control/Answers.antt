use Rattle.std.proofs.lemmas.Result.{err_from_is_err_and}
use Rattle.parse.proofs.control.Goals as goal

pub returns-in_err-steps-clause-room : goal.returns-in_err-steps-clause-room
returns-in_err-steps-clause-room c = λ limit slack r.
    let p = err_from_is_err_and c.from_residual-in_err-steps.result c.from_residual-in_err-steps.ensures.1 in
    rw (p.1, p.2) (c.in_err-steps.ensures.room limit slack (c.in_ok-step.ensures.room limit slack r))

pub returns-clause-room : goal.returns-clause-room
returns-clause-room c = λ limit slack r.
    c.reset.ensures.room limit slack (c.in_ok-steps.ensures.room limit slack (c.in_ok-step.ensures.room limit slack r))
