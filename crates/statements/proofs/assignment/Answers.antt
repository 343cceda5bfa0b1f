use Rattle.std.proofs.Common.{refl, Some, None}
use Rattle.grammar.specs.declared.draft.StatementKind.TheVariants.{Connection, Transfer}
use Rattle.grammar.specs.Drafts.{row_lists}
use Rattle.statements.proofs.Steps.{join, wrote_on, at_sign, not_at_sign}
use Rattle.statements.specs.Parts.{assigned_rows, conditional_rows, assignment_rows}
use Rattle.statements.proofs.assignment.Goals as goal

pub returns-then-at-clause-told : goal.returns-then-at-clause-told
returns-then-at-clause-told c =
    let before = row_lists c.args.rows.now in
    wrote_on (at_sign _ _ _ _ _ _ c.at.ensures c.if-at.true) before before (row_lists c.assigned.new.rows) c.assigned.new.cursor (assignment_rows c.args.place c.args.step) (assigned_rows c.args.place (Some c.args.step) Connection None) (λ u. refl) c.assigned.result c.assigned.ensures.told

pub returns-then-at-2-clause-told : goal.returns-then-at-2-clause-told
returns-then-at-2-clause-told c =
    let before = row_lists c.args.rows.now in
    wrote_on (join (not_at_sign _ _ _ _ _ _ c.at.ensures c.if-at.false) (at_sign _ _ _ _ _ _ c.at-else-at.ensures c.if-at-2.true)) before before (row_lists c.assigned-then-at-2.new.rows) c.assigned-then-at-2.new.cursor (assignment_rows c.args.place c.args.step) (assigned_rows c.args.place (Some c.args.step) Transfer None) (λ u. refl) c.assigned-then-at-2.result c.assigned-then-at-2.ensures.told

pub returns-else-at-2-clause-told : goal.returns-else-at-2-clause-told
returns-else-at-2-clause-told c =
    let before = row_lists c.args.rows.now in
    wrote_on (join (not_at_sign _ _ _ _ _ _ c.at.ensures c.if-at.false) (not_at_sign _ _ _ _ _ _ c.at-else-at.ensures c.if-at-2.false)) before before (row_lists c.conditional.new.rows) c.conditional.new.cursor (assignment_rows c.args.place c.args.step) (conditional_rows c.args.place c.args.step) (λ u. refl) c.conditional.result c.conditional.ensures.told
