use Rattle.std.proofs.Common.{refl, Some}
use Rattle.grammar.specs.Drafts.{row_lists}
use Rattle.statements.proofs.Steps.{wrote_on, on_sign}
use Rattle.statements.specs.Parts.{one_exit, next_exit_rows}
use Rattle.statements.proofs.next_exit.Goals as goal

pub returns-clause-told : goal.returns-clause-told
returns-clause-told c =
    let before = row_lists c.args.rows.now in
    wrote_on (on_sign _ _ _ _ _ _ c.in_ok-comma.ensures.told) before before (row_lists c.exit.new.rows) c.exit.new.cursor (next_exit_rows c.args.step) (one_exit c.args.step (Some c.in_ok-comma.comma)) (λ i. refl) c.exit.result c.exit.ensures.told
