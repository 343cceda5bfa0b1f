use Rattle.std.proofs.Common.{arith}
use Rattle.std.proofs.Common.{sym, ap, Some}
use Rattle.grammar.specs.Drafts.{row_lists}
use Rattle.grammar.specs.declared.draft.StatementKind.TheVariants.{Transfer}
use Rattle.statements.proofs.Steps.{join, wrote_on, on_part, on_sign}
use Rattle.statements.specs.Parts.{assigned_rows, conditional_rows}
use Rattle.grammar.proofs.Room.{rows_room_less}
use Rattle.statements.proofs.conditional.Goals as goal

pub returns-clause-told : goal.returns-clause-told
returns-clause-told c =
    let t = c.in_ok-node.ensures.told in
    wrote_on (join (join (join (on_sign _ _ _ _ _ _ c.in_ok-star.ensures.told) (on_sign _ _ _ _ _ _ c.in_ok-take.ensures.told)) (on_part _ _ _ _ c.in_ok-node.ensures.told.0 _ c.in_ok-node.ensures.told.1)) (on_sign _ _ _ _ _ _ c.in_ok-take-2.ensures.told)) (row_lists c.args.rows.now) (row_lists c.condition.new.rows) (row_lists c.assigned.new.rows) c.assigned.new.cursor (conditional_rows c.args.place c.args.step) (assigned_rows c.args.place (Some c.args.step) Transfer (Some (record { place = c.in_ok-star.star; node = c.in_ok-node.node }))) (λ u. ap (λ x. assigned_rows c.args.place (Some c.args.step) Transfer (Some (record { place = c.in_ok-star.star; node = x.0 })) u x.1) (sym t.2)) c.assigned.result c.assigned.ensures.told

pub returns-clause-room : goal.returns-clause-room
returns-clause-room c = λ limit slack r.
    let inside = c.in_ok-node.ensures.room limit slack (rows_room_less limit _ _ _ (omega (arith, c.in_ok-star.ensures.forward, c.in_ok-take.ensures.forward)) r) in
    c.assigned.ensures.room limit slack (rows_room_less limit _ _ _ (omega (arith, c.in_ok-take-2.ensures.forward)) inside)
