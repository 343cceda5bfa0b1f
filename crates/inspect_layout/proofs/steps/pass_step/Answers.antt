use Rattle.std.proofs.Common.{refl, sym, subst, Some, None}
use Rattle.control.specs.Databases.{rows_of}
use Rattle.database.specs.Expressions.{shapes}
use Rattle.database.specs.Soundness.{root, statement_roots}
use Rattle.inspect_layout.specs.Inner.{Passed}
use Rattle.inspect_layout.proofs.Roots.{ends_early, ends_then}
use Rattle.inspect_layout.proofs.Layouts.{wrong_exits, wrong_nodes, passes}
use Rattle.inspect_layout.proofs.steps.pass_step.Goals as goal

pub returns-then-not-has_exits : goal.returns-then-not-has_exits
returns-then-not-has_exits c =
    wrong_exits (rows_of c.args.rows.now) c.args.number c.args.step c.args.here _ _ _ _ c.requires c.split_own.ensures c.split_own-2.ensures c.if-not-has_exits.ensures

pub returns-in_err-middle : goal.returns-in_err-middle
returns-in_err-middle c =
    let d = rows_of c.args.rows.now in
    subst (Passed d c.args.number c.args.step c.args.here) (sym c.from_residual.ensures)
    (wrong_nodes d c.args.number c.args.step c.args.here _ _ _ _ c.requires c.split_own.ensures c.split_own-2.ensures
    (ends_early (shapes d) c.args.here.before (statement_roots c.split_own.result.0.now) (root c.args.step.condition) c.in_err-middle.ensures))

pub returns-in_err-before : goal.returns-in_err-before
returns-in_err-before c =
    let d = rows_of c.args.rows.now in
    subst (Passed d c.args.number c.args.step c.args.here) (sym c.from_residual-in_err-before.ensures)
    (wrong_nodes d c.args.number c.args.step c.args.here _ _ _ _ c.requires c.split_own.ensures c.split_own-2.ensures
    (ends_then (shapes d) c.args.here.before c.in_ok-middle.middle None (statement_roots c.split_own.result.0.now) (root c.args.step.condition) c.in_ok-middle.ensures c.in_err-before.ensures))

pub returns : goal.returns
returns c =
    let d = rows_of c.args.rows.now in
    passes d c.args.number c.args.step c.args.here _ _ _ _ c.requires c.split_own.ensures c.split_own-2.ensures
    (record { statements = c.split_own.result.1; exits = c.split_own-2.result.1; before = c.in_ok-before.before }) refl refl c.if-not-has_exits.ensures
    (ends_then (shapes d) c.args.here.before c.in_ok-middle.middle (Some c.in_ok-before.before) (statement_roots c.split_own.result.0.now) (root c.args.step.condition) c.in_ok-middle.ensures c.in_ok-before.ensures)
