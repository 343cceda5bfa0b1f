-- Numbers written into a list by rows, which count from 1. Assumes nothing.
use Rattle.std.proofs.Common.{◌≡◌, ◌≢◌, ℕ, ◌+◌, ◌-◌, ◌<◌, ◌≤◌, List, length, arith}
use Rattle.std.proofs.Math.ListN.{set}
use Rattle.std.proofs.lemmas.List.{get_or-set_other}
use Rattle.std.proofs.lemmas.Grind.{get_or-set_at}
use Rattle.design.specs.Derived.{in_row}

-- the number that was written
pub written : (xs : List ℕ) (i v n : ℕ) → i < length xs → n ≡ i + 1 → in_row (set xs i v) n ≡ v
written xs i v n h e = get_or-set_at xs i (n - 1) v 0 (omega arith) h

-- the others are as they were
pub unwritten : (xs : List ℕ) (i v n : ℕ) → 1 ≤ n → ¬ (n ≡ i + 1) → in_row (set xs i v) n ≡ in_row xs n
unwritten xs i v n one other = let ne : n - 1 ≢ i = λ e. other (omega arith) in get_or-set_other xs i (n - 1) v 0 ne
