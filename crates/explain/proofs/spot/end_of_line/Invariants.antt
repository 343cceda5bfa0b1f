use Rattle.std.proofs.Common.{length, ◌-◌, ◌≤◌}
use Rattle.explain.specs.Spots.{OneLine}
use Rattle.explain.proofs.spot.end_of_line.Given as goal

abbrev pub invariant-loop-end : goal.invariant-loop-end
invariant-loop-end l = (l.at ≤ l.end) × (l.end ≤ length l.text) × OneLine l.text l.at l.end

-- proposed from the loop's first test
abbrev pub decreases-loop-end : goal.decreases-loop-end
decreases-loop-end l = length l.text - l.end
