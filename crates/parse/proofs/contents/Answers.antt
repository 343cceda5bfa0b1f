use Rattle.std.proofs.lemmas.Result.{err_from_is_err_and}
use Rattle.parse.proofs.contents.Goals as goal

pub returns-in_err-declarations-clause-room : goal.returns-in_err-declarations-clause-room
returns-in_err-declarations-clause-room c = λ limit slack r.
    let p = err_from_is_err_and c.from_residual-in_err-declarations.result c.from_residual-in_err-declarations.ensures.1 in
    rw (p.1, p.2) (c.in_err-declarations.ensures.room limit slack (c.in_ok-declaration.ensures.room limit slack r))

pub returns-clause-room : goal.returns-clause-room
returns-clause-room c = λ limit slack r.
    c.body.ensures.room limit slack (c.in_ok-declarations.ensures.room limit slack (c.in_ok-declaration.ensures.room limit slack r))
