use Rattle.std.proofs.Common.{refl, arith}
use Rattle.std.proofs.lemmas.Grind.{common_steps}
use Rattle.std.proofs.lemmas.Result.{err_from_is_err_and}
use Rattle.grammar.specs.Rules.{step}
use Rattle.grammar.specs.Drafts.{row_lists, step_rows, more_steps}
use Rattle.grammar.specs.Promise.{deepest}
use Rattle.cursor.proofs.Steps.{goes_start, goes_turn, goes_end, goes_stop}
use Rattle.parse.proofs.steps.Goals as goal

pub loop-cursor-init : goal.loop-cursor-init
loop-cursor-init c = record { went = goes_start deepest step more_steps step_rows c.args.cursor.now (row_lists c.args.rows.now); on = omega arith; room = λ limit slack r. r }

pub loop-cursor-preserved : goal.loop-cursor-preserved
loop-cursor-preserved c =
    let (t, reads, wrote) = c.in_ok-step.ensures.told in
    record {
      went = goes_turn deepest step more_steps step_rows c.args.cursor.now (row_lists c.args.rows.now)
          (λ t u d. refl) c.loop-cursor.cursor (row_lists c.loop-cursor.rows) c.loop-cursor.invariant.went (grind (arith, common_steps)) t _ reads c.in_ok-step.ensures.forward (row_lists c.step.new.rows) wrote;
      on = omega (arith, c.loop-cursor.invariant.on, c.in_ok-step.ensures.forward);
      room = λ limit slack r. c.in_ok-step.ensures.room limit slack (c.loop-cursor.invariant.room limit slack r);
    }

pub returns-in_err-step-clause-told : goal.returns-in_err-step-clause-told
returns-in_err-step-clause-told c =
    let p = err_from_is_err_and c.from_residual.result c.from_residual.ensures.1 in
    rw (p.1, p.2)
    (goes_stop deepest step more_steps step_rows c.args.cursor.now (row_lists c.args.rows.now)
    c.loop-cursor.cursor (row_lists c.loop-cursor.rows) c.loop-cursor.invariant.went (grind (arith, common_steps)) (grind (arith, common_steps)) _ _ c.in_err-step.ensures.told)

pub returns-clause-told : goal.returns-clause-told
returns-clause-told c = goes_end deepest step more_steps step_rows c.args.cursor.now (row_lists c.args.rows.now)
    (λ d. refl) c.loop-cursor.cursor (row_lists c.loop-cursor.rows) c.loop-cursor.invariant.went (grind (arith, common_steps))

pub returns-in_err-step-clause-room : goal.returns-in_err-step-clause-room
returns-in_err-step-clause-room c = λ limit slack r.
    let p = err_from_is_err_and c.from_residual.result c.from_residual.ensures.1 in
    rw (p.1, p.2) (c.in_err-step.ensures.room limit slack (c.loop-cursor.invariant.room limit slack r))

pub returns-clause-room : goal.returns-clause-room
returns-clause-room c = λ limit slack r. c.loop-cursor.invariant.room limit slack r
