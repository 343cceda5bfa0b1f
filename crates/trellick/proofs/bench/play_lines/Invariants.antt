use Rattle.std.proofs.Common.{◌-◌, ◌≤◌, length}
use Rattle.trellick.proofs.bench.play_lines.Given as goal

abbrev pub invariant-loop-place : goal.invariant-loop-place
invariant-loop-place l = l.end ≤ length l.text

abbrev pub decreases-loop-place : goal.decreases-loop-place
decreases-loop-place l = length l.text - l.end
