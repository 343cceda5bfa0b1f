use Rattle.std.proofs.Common.{◌+◌, Bool, drop}
use Rattle.control.specs.Databases.{rows_of}
use Rattle.database.specs.Soundness.{TargetsLaid}
use Rattle.control.specs.Deciding.{Decides}
use Rattle.inspect_layout.specs.Layout.{TargetsInOrder}
use Rattle.inspect_layout.proofs.targets.targets_are_laid.Given as goal

abbrev pub invariant-loop-passed : goal.invariant-loop-passed
invariant-loop-passed l =
    let d = rows_of l.rows in
    (b : Bool) → Decides b (TargetsLaid d (l.passed + 1) (drop l.passed d.statements) l.targets) → Decides b (TargetsInOrder d)
