use Rattle.std.proofs.Common.{false}
use Rattle.control.specs.Databases.{rows_of}
use Rattle.inspect_layout.proofs.Sides.{statement_stops}
use Rattle.inspect_layout.proofs.targets.targets_are_laid.Goals as goal

pub returns-then-not-is_sound : goal.returns-then-not-is_sound
returns-then-not-is_sound c =
    let d = rows_of c.args.rows.now in
    c.loop-passed.invariant false (statement_stops d c.loop-passed.passed c.loop-passed.targets.now _ _ c.loop-passed-test.true c.split_own.ensures c.if-not-is_sound.ensures)
