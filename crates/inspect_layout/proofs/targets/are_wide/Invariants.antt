use Rattle.std.proofs.Common.{◌≡◌, Bool, drop, sum_by}
use Rattle.database.specs.Soundness.{target_width}
use Rattle.control.specs.Deciding.{Decides}
use Rattle.inspect_layout.proofs.targets.are_wide.Given as goal

abbrev pub invariant-loop-target : goal.invariant-loop-target
invariant-loop-target l = (b : Bool) → Decides b (sum_by target_width (drop l.target-index l.own) ≡ l.left) → Decides b (sum_by target_width l.own ≡ l.width)
