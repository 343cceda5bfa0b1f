use Rattle.std.proofs.Common.{arith}
use Rattle.std.proofs.lemmas.Grind.{common_steps}
use Rattle.grammar.specs.Trees.{both}
use Rattle.statements.proofs.Steps.{steps}
use Rattle.grammar.proofs.Room.{rows_room_less}
use Rattle.statements.proofs.step.Goals as goal

pub returns-clause-told : goal.returns-clause-told
returns-clause-told c =
    let number = c.in_ok-integer.ensures.told in
    let action = c.in_ok-leaving.ensures.told in
    (both number.0 (both action.0 c.in_ok-take.ensures.told.0), grind (arith, common_steps, steps), grind (arith, common_steps, number.2, action.2))

pub returns-in_err-push-clause-room : goal.returns-in_err-push-clause-room
returns-in_err-push-clause-room c = λ limit slack r.
    let a = c.in_ok-leaving.ensures.room limit slack (rows_room_less limit _ _ _ (omega (arith, c.in_ok-integer.ensures.forward)) r) in
    grind (arith, common_steps)

pub returns-clause-room : goal.returns-clause-room
returns-clause-room c = λ limit slack r.
    let a = c.in_ok-leaving.ensures.room limit slack (rows_room_less limit _ _ _ (omega (arith, c.in_ok-integer.ensures.forward)) r) in
    grind (arith, common_steps)
