use Rattle.std.proofs.Common.{◌≡◌, ◌≤◌, drop}
use Rattle.words.specs.Spelling.{decimal_from, decimal_value}
use Rattle.words.proofs.front.integer.Given as goal

abbrev pub invariant-loop-digit : goal.invariant-loop-digit
invariant-loop-digit l = (l.value ≤ 65535) × (decimal_from l.value (drop l.digit-index l.digits) ≡ decimal_value l.digits)
