use Rattle.std.proofs.Common.{false}
use Rattle.control.specs.Databases.{rows_of}
use Rattle.inspect_layout.proofs.Layouts.{step_turn, step_stops}
use Rattle.inspect_layout.proofs.steps.steps_are_laid.Goals as goal

pub returns-in-None : goal.returns-in-None
returns-in-None c =
    let d = rows_of c.args.rows.now in
    c.loop-passed.invariant false (step_stops d c.loop-passed.passed c.loop-passed.here c.loop-passed-test.true c.in-None.ensures)

pub loop-passed-preserved : goal.loop-passed-preserved
loop-passed-preserved c = λ b laid.
    let d = rows_of c.args.rows.now in
    c.loop-passed.invariant b (step_turn d c.loop-passed.passed c.loop-passed.here c.in-Some.behind c.loop-passed-test.true b c.in-Some.ensures laid)
