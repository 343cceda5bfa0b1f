use Rattle.std.proofs.Common.{◌+◌, length, ◌∙◌, ap, arith}
use Rattle.grammar.specs.Promise.{deepest}
use Rattle.grammar.specs.Trees.{both}
use Rattle.grammar.specs.Drafts.{row_lists, item_rows}
use Rattle.cursor.proofs.Steps.{word_is, then_got}
use Rattle.parse.proofs.Turns.{word_then}
use Rattle.grammar.proofs.Room.{rows_room_less}
use Rattle.parse.proofs.declaration.Goals as goal

pub returns-clause-told : goal.returns-clause-told
returns-clause-told c =
    let class = c.in_ok-class.ensures.told in
    let colon = c.in_ok-take.ensures.told in
    let items = c.in_ok-items.ensures.told in
    let dot = c.in_ok-take-2.ensures.told in (
      both class.0 (both colon.0 (both items.0 dot.0)),
      then_got deepest _ _ _ _ _ _ _ class.1 (word_then deepest _ _ tt _ _ _ _ _ colon.1 (then_got deepest _ _ _ _ _ _ _ items.1 (word_is deepest _ tt _ ∙ dot.1))),
      items.2 ∙ ap (λ k. item_rows k items.0 (row_lists c.args.rows.now)) class.2,
    )

pub returns-clause-room : goal.returns-clause-room
returns-clause-room c = λ limit slack r.
    let before = rows_room_less limit _ (length c.take.new.self + slack) _ (omega (arith, c.in_ok-class.ensures.forward, c.in_ok-take.ensures.forward)) r in
    rows_room_less limit _ _ _ (omega (arith, c.in_ok-take-2.ensures.forward)) (c.in_ok-items.ensures.room limit slack before)
