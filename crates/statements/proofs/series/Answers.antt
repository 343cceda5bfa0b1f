use Rattle.std.proofs.Common.{sym, ◌∙◌, arith}
use Rattle.std.proofs.lemmas.Result.{err_from_is_err_and}
use Rattle.grammar.specs.Promise.{deepest}
use Rattle.grammar.specs.Drafts.{row_lists, branch_rows, series_rows}
use Rattle.grammar.specs.Trees.{closing}
use Rattle.statements.proofs.Steps.{gave_on}
use Rattle.statements.proofs.Turns.{turns_start, turns_stop, turns_last, turns_turn, turns_branch}
use Rattle.grammar.proofs.Room.{rows_room_less}
use Rattle.statements.proofs.series.Goals as goal

pub loop-cursor-init : goal.loop-cursor-init
loop-cursor-init c = record { goes = turns_start deepest c.args.step c.args.cursor.now (row_lists c.args.rows.now); shorter = omega arith; room = λ limit slack r. r }

pub returns-in_err-statement-clause-told : goal.returns-in_err-statement-clause-told
returns-in_err-statement-clause-told c = let p = err_from_is_err_and c.from_residual.result c.from_residual.ensures.1 in rw (p.1, p.2) (turns_stop deepest c.args.step c.args.cursor.now (row_lists c.args.rows.now) c.loop-cursor.cursor (row_lists c.loop-cursor.rows) c.loop-cursor.invariant.goes c.at.result c.at.ensures c.loop-cursor-test.true _ _ c.in_err-statement.ensures.told)

pub returns-then-not-at-clause-told : goal.returns-then-not-at-clause-told
returns-then-not-at-clause-told c = turns_last deepest c.args.step c.args.cursor.now (row_lists c.args.rows.now) c.loop-cursor.cursor (row_lists c.loop-cursor.rows) c.loop-cursor.invariant.goes c.at.result c.at.ensures c.loop-cursor-test.true c.statement.new.cursor (row_lists c.statement.new.rows) c.in_ok-statement.ensures.told (sym c.at-in-loop-cursor.ensures ∙ c.if-not-at.true)

pub loop-cursor-preserved : goal.loop-cursor-preserved
loop-cursor-preserved c = record { goes = turns_turn deepest c.args.step c.args.cursor.now (row_lists c.args.rows.now) c.loop-cursor.cursor (row_lists c.loop-cursor.rows) c.loop-cursor.invariant.goes c.at.result c.at.ensures c.loop-cursor-test.true c.statement.new.cursor (row_lists c.statement.new.rows) c.in_ok-statement.ensures.told c.in_ok-take.field-0 c.take.new.self c.in_ok-take.ensures.told (omega (arith, c.in_ok-statement.ensures.forward, c.in_ok-take.ensures.forward)); shorter = omega (arith, c.in_ok-statement.ensures.forward, c.in_ok-take.ensures.forward); room = λ limit slack r. rows_room_less limit _ _ _ (omega (arith, c.in_ok-take.ensures.forward)) (c.in_ok-statement.ensures.room limit slack (c.loop-cursor.invariant.room limit slack r)) }

pub returns-clause-told : goal.returns-clause-told
returns-clause-told c = gave_on (turns_branch deepest c.args.step c.args.cursor.now (row_lists c.args.rows.now) c.loop-cursor.cursor (row_lists c.loop-cursor.rows) c.loop-cursor.invariant.goes c.at.result c.at.ensures c.loop-cursor-test.false) (row_lists c.args.rows.now) (row_lists c.loop-cursor.rows) (row_lists c.branch-cursor.new.rows) c.branch-cursor.new.cursor (series_rows c.args.step) (branch_rows c.args.step) (λ t. c.loop-cursor.invariant.goes.rows (closing t)) c.branch-cursor.result c.branch-cursor.ensures.told

pub returns-in_err-statement-clause-room : goal.returns-in_err-statement-clause-room
returns-in_err-statement-clause-room c = λ limit slack r.
    let p = err_from_is_err_and c.from_residual.result c.from_residual.ensures.1 in
    rw (p.1, p.2) (c.in_err-statement.ensures.room limit slack (c.loop-cursor.invariant.room limit slack r))

pub returns-then-not-at-clause-room : goal.returns-then-not-at-clause-room
returns-then-not-at-clause-room c = λ limit slack r. c.in_ok-statement.ensures.room limit slack (c.loop-cursor.invariant.room limit slack r)

pub returns-clause-room : goal.returns-clause-room
returns-clause-room c = λ limit slack r. c.branch-cursor.ensures.room limit slack (c.loop-cursor.invariant.room limit slack r)
