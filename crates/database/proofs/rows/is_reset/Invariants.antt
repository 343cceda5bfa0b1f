use Rattle.std.proofs.Common.{◌≡◌, drop}
use Rattle.database.specs.Saying.{is_reset}
use Rattle.database.proofs.rows.is_reset.Given as goal

-- no reset up to here names the step
abbrev pub invariant-loop-named : goal.invariant-loop-named
invariant-loop-named l = is_reset l.resets l.number ≡ is_reset (drop l.named-index l.resets) l.number
