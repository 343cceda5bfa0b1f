use Rattle.std.proofs.Common.{refl, ap, ◌∙◌, arith}
use Rattle.std.proofs.lemmas.Result.{err_from_is_err_and}
use Rattle.words.specs.declared.token.Sign.TheVariants.{Comma}
use Rattle.grammar.specs.Rules.{mark, ref, many, ◌then◌}
use Rattle.grammar.specs.Trees.{both}
use Rattle.grammar.specs.Promise.{deepest}
use Rattle.grammar.specs.Drafts.{row_lists, more_targets}
use Rattle.cursor.proofs.Steps.{goes_start}
use Rattle.statements.proofs.Steps.{got_on, stop_on, on_part}
use Rattle.statements.specs.Parts.{next_target_rows}
use Rattle.statements.proofs.Lists.{commas_turn, commas_end, commas_stop, targets_turn}
use Rattle.statements.proofs.targets.Goals as goal

pub loop-cursor-init : goal.loop-cursor-init
loop-cursor-init c = record { goes = goes_start deepest (mark Comma then ref) more_targets next_target_rows c.one_target.new.cursor (row_lists c.one_target.new.rows); shorter = omega arith; room = λ limit slack r. r }

pub loop-cursor-preserved : goal.loop-cursor-preserved
loop-cursor-preserved c = record { goes = commas_turn deepest ref more_targets next_target_rows c.one_target.new.cursor (row_lists c.one_target.new.rows) c.loop-cursor.cursor (row_lists c.loop-cursor.rows) c.loop-cursor.invariant.goes c.at.result c.at.ensures targets_turn c.loop-cursor-test.true c.next_target.new.cursor (row_lists c.next_target.new.rows) c.in_ok-next_target.ensures.told c.in_ok-next_target.ensures.forward; shorter = omega (arith, c.in_ok-next_target.ensures.forward); room = λ limit slack r. c.in_ok-next_target.ensures.room limit slack (c.loop-cursor.invariant.room limit slack r) }

pub returns-in_err-next_target-clause-told : goal.returns-in_err-next_target-clause-told
returns-in_err-next_target-clause-told c = let p = err_from_is_err_and c.from_residual-in_err-next_target.result c.from_residual-in_err-next_target.ensures.1 in rw (p.1, p.2) (stop_on (on_part deepest ref (many (mark Comma then ref)) c.args.cursor.now c.in_ok-place.ensures.told.0 c.one_target.new.cursor c.in_ok-place.ensures.told.1) _ _ (commas_stop deepest ref more_targets next_target_rows c.one_target.new.cursor (row_lists c.one_target.new.rows) c.loop-cursor.cursor (row_lists c.loop-cursor.rows) c.loop-cursor.invariant.goes c.at.result c.at.ensures c.loop-cursor-test.true _ _ c.in_err-next_target.ensures.told))

pub returns-clause-told : goal.returns-clause-told
returns-clause-told c =
    let t = c.in_ok-place.ensures.told in
    let u = commas_end deepest ref more_targets next_target_rows c.one_target.new.cursor (row_lists c.one_target.new.rows) c.loop-cursor.cursor (row_lists c.loop-cursor.rows) c.loop-cursor.invariant.goes c.at.result c.at.ensures (λ d. refl) c.loop-cursor-test.false in
    (both t.0 u.0, got_on (on_part deepest ref (many (mark Comma then ref)) c.args.cursor.now c.in_ok-place.ensures.told.0 c.one_target.new.cursor c.in_ok-place.ensures.told.1) u.0 c.loop-cursor.cursor u.1, ap (λ d. (c.in_ok-place.place, d)) u.2 ∙ ap (λ x. (x.0, more_targets u.0 x.1)) t.2)

pub returns-in_err-next_target-clause-room : goal.returns-in_err-next_target-clause-room
returns-in_err-next_target-clause-room c = λ limit slack r.
    let p = err_from_is_err_and c.from_residual-in_err-next_target.result c.from_residual-in_err-next_target.ensures.1 in
    rw (p.1, p.2) (c.in_err-next_target.ensures.room limit slack (c.loop-cursor.invariant.room limit slack (c.in_ok-place.ensures.room limit slack r)))

pub returns-clause-room : goal.returns-clause-room
returns-clause-room c = λ limit slack r. c.loop-cursor.invariant.room limit slack (c.in_ok-place.ensures.room limit slack r)
