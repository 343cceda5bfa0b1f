use Rattle.std.proofs.Common.{arith}
use Rattle.grammar.specs.Trees.{both}
use Rattle.cursor.proofs.Reading.{reading}
use Rattle.std.proofs.lemmas.Result.{err_from_is_err_and}
use Rattle.grammar.proofs.Room.{rows_room_less}
use Rattle.cursor.proofs.Room.{room_stop}
use Rattle.parse.proofs.closing.Goals as goal

pub returns-clause-told : goal.returns-clause-told
returns-clause-told c =
    let connections = c.in_ok-connections.ensures.told in
    let dot = c.in_ok-take.ensures.told in
    let end = c.in_ok-take-2.ensures.told in
    let last_dot = c.in_ok-take-3.ensures.told in (both connections.0 (both dot.0 (both end.0 last_dot.0)), simp (reading, connections.1, dot.1, end.1, last_dot.1), connections.2)

pub returns-in_err-take-2-clause-room : goal.returns-in_err-take-2-clause-room
returns-in_err-take-2-clause-room c = λ limit slack r.
    let p = err_from_is_err_and c.from_residual-in_err-take-2.result c.from_residual-in_err-take-2.ensures.1 in
    rw (p.1, p.2) (room_stop (Unit {0}) limit _ _ _ _ c.in_err-take-2.ensures.stops (c.in_ok-connections.ensures.room limit slack r))

pub returns-in_err-take-3-clause-room : goal.returns-in_err-take-3-clause-room
returns-in_err-take-3-clause-room c = λ limit slack r.
    let p = err_from_is_err_and c.from_residual-in_err-take-3.result c.from_residual-in_err-take-3.ensures.1 in
    rw (p.1, p.2) (room_stop (Unit {0}) limit _ _ _ _ c.in_err-take-3.ensures.stops (c.in_ok-connections.ensures.room limit slack r))

pub returns-clause-room : goal.returns-clause-room
returns-clause-room c = λ limit slack r.
    rows_room_less limit _ _ _ (omega (arith, c.in_ok-take.ensures.forward, c.in_ok-take-2.ensures.forward, c.in_ok-take-3.ensures.forward)) (c.in_ok-connections.ensures.room limit slack r)
