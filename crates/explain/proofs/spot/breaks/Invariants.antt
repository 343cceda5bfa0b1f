use Rattle.std.proofs.Common.{◌≡◌, ◌≤◌, take, count_by, ◌==◌}
use Rattle.explain.proofs.spot.breaks.Given as goal

abbrev pub invariant-loop-i : goal.invariant-loop-i
invariant-loop-i l = (l.count ≡ count_by (λ b. b == 10) (take l.i l.text)) × (l.count ≤ l.i)
