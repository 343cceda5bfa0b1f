use Rattle.std.proofs.Common.{sym, ap, ◌∙◌, None}
use Rattle.grammar.specs.declared.draft.StatementKind.TheVariants.{Connection}
use Rattle.grammar.specs.Drafts.{row_lists, conn_rows}
use Rattle.statements.proofs.Steps.{wrote_on, on_part}
use Rattle.statements.specs.Parts.{assigned_rows}
use Rattle.statements.proofs.Parts.{conn_are}
use Rattle.statements.proofs.connection.Goals as goal

pub returns-clause-told : goal.returns-clause-told
returns-clause-told c =
    let t = c.in_ok-place.ensures.told in
    let before = row_lists c.args.rows.now in
    wrote_on (on_part _ _ _ _ c.in_ok-place.ensures.told.0 _ c.in_ok-place.ensures.told.1) before (row_lists c.targets.new.rows) (row_lists c.assigned.new.rows) c.assigned.new.cursor conn_rows (assigned_rows c.in_ok-place.place None Connection None) (λ u. conn_are t.0 u before ∙ ap (λ x. assigned_rows x.0 None Connection None u x.1) (sym t.2)) c.assigned.result c.assigned.ensures.told

pub returns-clause-room : goal.returns-clause-room
returns-clause-room c = λ limit slack r.
    c.assigned.ensures.room limit slack (c.in_ok-place.ensures.room limit slack r)
