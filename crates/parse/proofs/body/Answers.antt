use Rattle.std.proofs.Common.{arith}
use Rattle.grammar.specs.Promise.{deepest}
use Rattle.grammar.specs.Trees.{both}
use Rattle.parse.proofs.Turns.{word_then, pair_is}
use Rattle.grammar.proofs.Room.{rows_room_less}
use Rattle.parse.proofs.body.Goals as goal

pub returns-clause-told : goal.returns-clause-told
returns-clause-told c =
    let body = c.in_ok-take.ensures.told in
    let sequence = c.in_ok-take-2.ensures.told in
    let colon = c.in_ok-take-3.ensures.told in
    let clock = c.in_ok-clock.ensures.told in
    let dot = c.in_ok-take-4.ensures.told in
    let control = c.in_ok-control.ensures.told in (
      both body.0 (both sequence.0 (both colon.0 (both clock.0 (both dot.0 control.0)))),
      word_then deepest _ _ tt _ _ _ _ _ body.1 (word_then deepest _ _ tt _ _ _ _ _ sequence.1
          (word_then deepest _ _ tt _ _ _ _ _ colon.1 (word_then deepest _ _ tt _ _ _ _ _ clock.1
          (word_then deepest _ _ tt _ _ _ _ _ dot.1 control.1)))),
      pair_is clock.2 control.2,
    )

pub returns-clause-room : goal.returns-clause-room
returns-clause-room c = λ limit slack r.
    let taken = c.in_ok-take-4.ensures.forward in
    c.in_ok-control.ensures.room limit slack
    (rows_room_less limit _ _ _ (omega (arith, c.in_ok-take.ensures.forward, c.in_ok-take-2.ensures.forward, c.in_ok-take-3.ensures.forward, c.in_ok-clock.ensures.forward, taken)) r)
