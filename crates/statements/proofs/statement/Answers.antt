use Rattle.std.proofs.Common.{sym, ap, ◌∙◌}
use Rattle.grammar.specs.Drafts.{row_lists, stmt_rows}
use Rattle.statements.proofs.Steps.{wrote_on, on_part}
use Rattle.statements.specs.Parts.{assignment_rows}
use Rattle.statements.proofs.Parts.{stmt_are}
use Rattle.statements.proofs.statement.Goals as goal

pub returns-clause-told : goal.returns-clause-told
returns-clause-told c =
    let t = c.in_ok-place.ensures.told in
    let before = row_lists c.args.rows.now in
    wrote_on (on_part _ _ _ _ c.in_ok-place.ensures.told.0 _ c.in_ok-place.ensures.told.1) before (row_lists c.targets.new.rows) (row_lists c.assignment.new.rows) c.assignment.new.cursor (stmt_rows c.args.step) (assignment_rows c.in_ok-place.place c.args.step) (λ u. stmt_are c.args.step t.0 u before ∙ ap (λ x. assignment_rows x.0 c.args.step u x.1) (sym t.2)) c.assignment.result c.assignment.ensures.told

pub returns-clause-room : goal.returns-clause-room
returns-clause-room c = λ limit slack r.
    c.assignment.ensures.room limit slack (c.in_ok-place.ensures.room limit slack r)
