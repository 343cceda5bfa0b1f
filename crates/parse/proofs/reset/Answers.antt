use Rattle.std.proofs.Common.{arith}
use Rattle.std.proofs.lemmas.Grind.{common_steps}
use Rattle.grammar.specs.Promise.{deepest}
use Rattle.cursor.proofs.Reading.{reading}
use Rattle.grammar.proofs.Room.{with_resets_room}
use Rattle.parse.proofs.reset.Goals as goal

pub returns-in_err-integers-clause-told : goal.returns-in_err-integers-clause-told
returns-in_err-integers-clause-told c = grind (arith, common_steps, reading, c.in_err-integers.ensures.told deepest)

pub returns-in_err-take-4-clause-told : goal.returns-in_err-take-4-clause-told
returns-in_err-take-4-clause-told c = grind (arith, common_steps, reading, c.in_ok-integers.ensures.told deepest)

pub returns-clause-told : goal.returns-clause-told
returns-clause-told c = grind (arith, common_steps, reading, c.in_ok-integers.ensures.told deepest)

pub returns-clause-room : goal.returns-clause-room
returns-clause-room c = λ limit slack r.
    let list = c.in_ok-integers.ensures.room limit slack (omega (arith, r.resets.0, c.in_ok-take.ensures.forward, c.in_ok-take-2.ensures.forward, c.in_ok-take-3.ensures.forward), r.resets.1) in
    c.closing.ensures.room limit slack
    (with_resets_room limit _ _ c.args.rows.now c.integers.new.list
    (omega (arith, c.in_ok-take.ensures.forward, c.in_ok-take-2.ensures.forward, c.in_ok-take-3.ensures.forward, c.in_ok-integers.ensures.forward, c.in_ok-take-4.ensures.forward))
    r (omega (arith, list.0, c.in_ok-take-4.ensures.forward), list.1))
