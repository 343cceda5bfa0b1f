use Rattle.std.proofs.Common.{arith, sym, ◌∙◌}
use Rattle.std.proofs.lemmas.Grind.{common_steps}
use Rattle.grammar.specs.Trees.{mark_at}
use Rattle.grammar.specs.Drafts.{row_lists, branch_rows}
use Rattle.statements.proofs.Steps.{steps, was_read, join, gave_on, on_sign, on_other}
use Rattle.statements.specs.Parts.{condition_branch_rows}
use Rattle.statements.proofs.Parts.{conditions_are}
use Rattle.grammar.proofs.Room.{rows_room_less}
use Rattle.statements.proofs.branch.Goals as goal

pub returns-in_ok-take-3-clause-told : goal.returns-in_ok-take-3-clause-told
returns-in_ok-take-3-clause-told c = was_read _ _ _ _ (grind (arith, common_steps, steps))

pub returns-else-at_list-clause-told : goal.returns-else-at_list-clause-told
returns-else-at_list-clause-told c =
    let before = row_lists c.args.rows.now in
    gave_on (join (join (on_sign _ _ _ _ _ _ c.in_ok-take.ensures.told) (on_sign _ _ _ _ _ _ c.in_ok-take-2.ensures.told)) (on_other _ _ _ _ (sym c.at_list.ensures ∙ c.if-at_list.false))) before before (row_lists c.condition_exits.new.rows) c.condition_exits.new.cursor (branch_rows c.args.step) (condition_branch_rows c.args.step) (λ t. conditions_are c.args.step (mark_at c.in_ok-take.field-0) (mark_at c.in_ok-take-2.field-0) t before) c.condition_exits.result c.condition_exits.ensures.told

pub returns-in_ok-take-3-clause-room : goal.returns-in_ok-take-3-clause-room
returns-in_ok-take-3-clause-room c = λ limit slack r.
    let inside = c.in_ok-exits.ensures.room limit slack (rows_room_less limit _ _ _ (omega (arith, c.in_ok-take.ensures.forward, c.in_ok-take-2.ensures.forward)) r) in
    rows_room_less limit _ _ _ (omega (arith, c.in_ok-take-3.ensures.forward)) inside
