use Rattle.std.proofs.Common.{◌≤◌}
use Rattle.explain.specs.Spots.{OneLine}
use Rattle.explain.proofs.spot.start_of_line.Given as goal

abbrev pub invariant-loop-start : goal.invariant-loop-start
invariant-loop-start l = (l.start ≤ l.at) × OneLine l.text l.start l.at

-- proposed from the loop's first test
abbrev pub decreases-loop-start : goal.decreases-loop-start
decreases-loop-start l = l.start
