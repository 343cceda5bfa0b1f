use Rattle.std.proofs.Common.{◌+◌, Bool, drop, length}
use Rattle.control.specs.Databases.{rows_of}
use Rattle.database.specs.Soundness.{StepsLaid}
use Rattle.control.specs.Deciding.{Decides}
use Rattle.inspect_layout.specs.Inner.{LaidFrom}
use Rattle.inspect_layout.proofs.steps.steps_are_laid.Given as goal

abbrev pub invariant-loop-passed : goal.invariant-loop-passed
invariant-loop-passed l =
    let d = rows_of l.rows in
    (b : Bool) → Decides b (LaidFrom d (l.passed + 1) (drop l.passed d.steps) l.here) → Decides b (StepsLaid d 1 d.steps d.statements d.exits 0 (length d.nodes))
