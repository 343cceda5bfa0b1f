use Rattle.std.proofs.Common.{arith}
use Rattle.std.proofs.lemmas.Grind.{common_steps}
use Rattle.grammar.specs.Trees.{mark_at, both}
use Rattle.statements.proofs.Steps.{steps}
use Rattle.std.proofs.lemmas.Result.{err_from_is_err_and}
use Rattle.grammar.specs.declared.draft.Leaving.{Leaving}
use Rattle.grammar.proofs.Room.{rows_room_less}
use Rattle.cursor.proofs.Room.{room_stop}
use Rattle.statements.proofs.condition_exits.Goals as goal

pub returns-clause-told : goal.returns-clause-told
returns-clause-told c =
    let condition = c.in_ok-node.ensures.told in
    let exits = c.in_ok-exits.ensures.told in (
      both condition.0 (both c.in_ok-take.ensures.told.0 (both (mark_at c.in_ok-place.place) (both c.in_ok-take-2.ensures.told.0 (both exits.0 c.in_ok-take-3.ensures.told.0)))),
      grind (arith, common_steps, steps),
      grind (arith, condition.2, exits.2),
    )

pub returns-in_err-place-clause-room : goal.returns-in_err-place-clause-room
returns-in_err-place-clause-room c = λ limit slack r.
    let p = err_from_is_err_and c.from_residual-in_err-place.result c.from_residual-in_err-place.ensures.1 in
    rw (p.1, p.2) (room_stop Leaving limit _ _ _ _ c.in_err-place.ensures.stops (c.in_ok-node.ensures.room limit slack r))

pub returns-in_err-take-2-clause-room : goal.returns-in_err-take-2-clause-room
returns-in_err-take-2-clause-room c = λ limit slack r.
    let p = err_from_is_err_and c.from_residual-in_err-take-2.result c.from_residual-in_err-take-2.ensures.1 in
    rw (p.1, p.2) (room_stop Leaving limit _ _ _ _ c.in_err-take-2.ensures.stops (c.in_ok-node.ensures.room limit slack r))

pub returns-in_err-exits-clause-room : goal.returns-in_err-exits-clause-room
returns-in_err-exits-clause-room c = λ limit slack r.
    let p = err_from_is_err_and c.from_residual-in_err-exits.result c.from_residual-in_err-exits.ensures.1 in
    rw (p.1, p.2) (c.in_err-exits.ensures.room limit slack (rows_room_less limit _ _ _ (omega (arith, c.in_ok-take.ensures.forward, c.in_ok-place.ensures.forward, c.in_ok-take-2.ensures.forward)) (c.in_ok-node.ensures.room limit slack r)))

pub returns-in_err-take-3-clause-room : goal.returns-in_err-take-3-clause-room
returns-in_err-take-3-clause-room c = λ limit slack r.
    let p = err_from_is_err_and c.from_residual-in_err-take-3.result c.from_residual-in_err-take-3.ensures.1 in
    let inside = c.in_ok-exits.ensures.room limit slack (rows_room_less limit _ _ _ (omega (arith, c.in_ok-take.ensures.forward, c.in_ok-place.ensures.forward, c.in_ok-take-2.ensures.forward)) (c.in_ok-node.ensures.room limit slack r)) in
    rw (p.1, p.2) (room_stop Leaving limit _ _ _ _ c.in_err-take-3.ensures.stops inside)

pub returns-clause-room : goal.returns-clause-room
returns-clause-room c = λ limit slack r.
    let inside = c.in_ok-exits.ensures.room limit slack (rows_room_less limit _ _ _ (omega (arith, c.in_ok-take.ensures.forward, c.in_ok-place.ensures.forward, c.in_ok-take-2.ensures.forward)) (c.in_ok-node.ensures.room limit slack r)) in
    rows_room_less limit _ _ _ (omega (arith, c.in_ok-take-3.ensures.forward)) inside
