use Rattle.std.proofs.Common.{◌≡◌, ◌-◌, ◌^◌, min, take, sum_by}
use Rattle.inspect_rows.proofs.declared.bits_are_few.Given as goal

abbrev pub invariant-loop-symbol : goal.invariant-loop-symbol
invariant-loop-symbol l = l.bits ≡ min (sum_by (λ x. x.width) (take l.symbol-index l.symbols)) (2 ^ 64 - 1)
