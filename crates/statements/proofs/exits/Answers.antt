use Rattle.std.proofs.Common.{refl, ap, ◌∙◌, arith}
use Rattle.std.proofs.lemmas.Result.{err_from_is_err_and}
use Rattle.words.specs.declared.token.Sign.TheVariants.{Comma}
use Rattle.grammar.specs.Rules.{mark, integer, many, ◌then◌}
use Rattle.grammar.specs.Trees.{both}
use Rattle.grammar.specs.Promise.{deepest}
use Rattle.grammar.specs.Drafts.{row_lists}
use Rattle.cursor.proofs.Steps.{goes_start}
use Rattle.statements.proofs.Steps.{got_on, stop_on, on_part}
use Rattle.statements.specs.Parts.{next_exit_rows}
use Rattle.statements.proofs.Lists.{commas_turn, commas_end, commas_stop, more_exits, exits_are}
use Rattle.statements.proofs.exits.Goals as goal

pub loop-cursor-init : goal.loop-cursor-init
loop-cursor-init c = record { goes = goes_start deepest (mark Comma then integer) (more_exits c.args.step) (next_exit_rows c.args.step) c.exit.new.cursor (row_lists c.exit.new.rows); shorter = omega arith; room = λ limit slack r. r }

pub loop-cursor-preserved : goal.loop-cursor-preserved
loop-cursor-preserved c = record { goes = commas_turn deepest integer (more_exits c.args.step) (next_exit_rows c.args.step) c.exit.new.cursor (row_lists c.exit.new.rows) c.loop-cursor.cursor (row_lists c.loop-cursor.rows) c.loop-cursor.invariant.goes c.at.result c.at.ensures (λ t u d. refl) c.loop-cursor-test.true c.next_exit.new.cursor (row_lists c.next_exit.new.rows) c.in_ok-next_exit.ensures.told c.in_ok-next_exit.ensures.forward; shorter = omega (arith, c.in_ok-next_exit.ensures.forward); room = λ limit slack r. c.in_ok-next_exit.ensures.room limit slack (c.loop-cursor.invariant.room limit slack r) }

pub returns-in_err-next_exit-clause-told : goal.returns-in_err-next_exit-clause-told
returns-in_err-next_exit-clause-told c = let p = err_from_is_err_and c.from_residual-in_err-next_exit.result c.from_residual-in_err-next_exit.ensures.1 in rw (p.1, p.2) (stop_on (on_part deepest integer (many (mark Comma then integer)) c.args.cursor.now c.in_ok-exit.ensures.told.0 c.exit.new.cursor c.in_ok-exit.ensures.told.1) _ _ (commas_stop deepest integer (more_exits c.args.step) (next_exit_rows c.args.step) c.exit.new.cursor (row_lists c.exit.new.rows) c.loop-cursor.cursor (row_lists c.loop-cursor.rows) c.loop-cursor.invariant.goes c.at.result c.at.ensures c.loop-cursor-test.true _ _ c.in_err-next_exit.ensures.told))

pub returns-clause-told : goal.returns-clause-told
returns-clause-told c =
    let t = c.in_ok-exit.ensures.told in
    let u = commas_end deepest integer (more_exits c.args.step) (next_exit_rows c.args.step) c.exit.new.cursor (row_lists c.exit.new.rows) c.loop-cursor.cursor (row_lists c.loop-cursor.rows) c.loop-cursor.invariant.goes c.at.result c.at.ensures (λ d. refl) c.loop-cursor-test.false in
    (both t.0 u.0, got_on (on_part deepest integer (many (mark Comma then integer)) c.args.cursor.now c.in_ok-exit.ensures.told.0 c.exit.new.cursor c.in_ok-exit.ensures.told.1) u.0 c.loop-cursor.cursor u.1, u.2 ∙ (ap (more_exits c.args.step u.0) t.2 ∙ exits_are c.args.step t.0 u.0 (row_lists c.args.rows.now)))

pub returns-in_err-next_exit-clause-room : goal.returns-in_err-next_exit-clause-room
returns-in_err-next_exit-clause-room c = λ limit slack r.
    let p = err_from_is_err_and c.from_residual-in_err-next_exit.result c.from_residual-in_err-next_exit.ensures.1 in
    rw (p.1, p.2) (c.in_err-next_exit.ensures.room limit slack (c.loop-cursor.invariant.room limit slack (c.in_ok-exit.ensures.room limit slack r)))

pub returns-clause-room : goal.returns-clause-room
returns-clause-room c = λ limit slack r. c.loop-cursor.invariant.room limit slack (c.in_ok-exit.ensures.room limit slack r)
