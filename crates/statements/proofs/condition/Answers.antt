use Rattle.std.proofs.Common.{arith}
use Rattle.grammar.proofs.Room.{with_terms_room}
use Rattle.statements.proofs.condition.Goals as goal

pub returns-clause-room : goal.returns-clause-room
returns-clause-room c = λ limit slack r.
    with_terms_room limit _ _ _ _ (omega (arith, c.in_ok-expression.ensures.forward)) r (c.in_ok-expression.ensures.room limit slack r.terms)
