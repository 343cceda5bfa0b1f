use Rattle.std.proofs.Common.{◌+◌, drop, get_or, refl, Some, None, sym, subst}
use Rattle.std.proofs.lemmas.List.{at_drop_more, at_drop_all}
use Rattle.control.specs.Databases.{rows_of}
use Rattle.database.specs.Rows.{no_statement}
use Rattle.database.specs.Expressions.{shapes}
use Rattle.database.specs.Soundness.{statement_roots}
use Rattle.inspect_layout.specs.Inner.{EndsAt}
use Rattle.inspect_layout.proofs.Roots.{statement_early, statement_then}
use Rattle.inspect_layout.proofs.steps.pass_statements.Goals as goal

pub returns-in_err-end : goal.returns-in_err-end
returns-in_err-end c =
    let sh = shapes (rows_of c.args.rows.now) in
    let ss = c.args.statements.now in
    let i = c.loop-statement.statement-index in
    let end = c.loop-statement.end in
    subst (EndsAt sh c.args.before (statement_roots ss)) (sym c.from_residual.ensures)
    (c.loop-statement.invariant None
    (subst (λ xs. EndsAt sh end xs None) (sym (at_drop_more statement_roots ss i no_statement c.loop-statement-test.true))
    (statement_early sh end (get_or ss i no_statement) (drop (i + 1) ss) c.in_err-end.ensures)))

pub loop-statement-preserved : goal.loop-statement-preserved
loop-statement-preserved c = λ o laid.
    let sh = shapes (rows_of c.args.rows.now) in
    let ss = c.args.statements.now in
    let i = c.loop-statement.statement-index in
    let end = c.loop-statement.end in
    c.loop-statement.invariant o
    (subst (λ xs. EndsAt sh end xs o) (sym (at_drop_more statement_roots ss i no_statement c.loop-statement-test.true))
    (statement_then sh end c.in_ok-end.end (get_or ss i no_statement) (drop (i + 1) ss) o c.in_ok-end.ensures laid))

pub returns : goal.returns
returns c =
    let sh = shapes (rows_of c.args.rows.now) in
    let ss = c.args.statements.now in
    let end = c.loop-statement.end in
    c.loop-statement.invariant (Some end)
    (subst (λ xs. EndsAt sh end xs (Some end)) (sym (at_drop_all statement_roots ss c.loop-statement.statement-index c.loop-statement-test.false)) refl)
