-- Sums that stop at the largest number of the machine. Assumes nothing.
use Rattle.std.proofs.Common.{◌≡◌, ℕ, ◌+◌, ◌-◌, ◌^◌, ◌&&◌, min, nat_le, nat_lt, arith}
use Rattle.std.proofs.lemmas.Bool.Decides.{nat_tests}
use Rattle.symbols.specs.Items.{most_declared_bits}

-- one number more
pub stopped_more : (sum more : ℕ) → min (min sum (2 ^ 64 - 1) + more) (2 ^ 64 - 1) ≡ min (sum + more) (2 ^ 64 - 1)
stopped_more sum more = omega arith

-- such a sum passes the most bits that can be declared where the sum itself does
pub stopped_pass : (sum more : ℕ) → (nat_le (min sum (2 ^ 64 - 1)) most_declared_bits && nat_lt most_declared_bits (min sum (2 ^ 64 - 1) + more)) ≡ (nat_le sum most_declared_bits && nat_lt most_declared_bits (sum + more))
stopped_pass sum more = grind (arith, nat_tests)
