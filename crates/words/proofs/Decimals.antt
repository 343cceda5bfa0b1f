-- Numbers written in base ten. Assumes nothing.
use Rattle.std.proofs.Common.{◌≡◌, ℕ, ◌+◌, ◌-◌, ◌*◌, ◌<◌, ◌≤◌, Bool, true, List, [], ◌∷◌, length, get_or, drop, suc, zero, arith}
use Rattle.std.proofs.lemmas.List.{at_drop_more, at_drop_all}
use Rattle.std.proofs.lemmas.Bool.Decides.{nat_tests}
use Rattle.std.specs.Char.{is_ascii_digit}
use Rattle.words.specs.Spelling.{Every, decimal_from}

-- more digits make the number no smaller
pub decimal_grows : (n : ℕ) (ds : List ℕ) → n ≤ decimal_from n ds
decimal_grows n [] = omega arith
decimal_grows n (d ∷ ds) = omega (arith, decimal_grows (n * 10 + (d - 48)) ds)

-- one digit on
pub decimal_more : (n : ℕ) (ds : List ℕ) (i : ℕ) → i < length ds → decimal_from n (drop i ds) ≡ decimal_from (n * 10 + (get_or ds i 0 - 48)) (drop (i + 1) ds)
decimal_more n ds i h = at_drop_more (decimal_from n) ds i 0 h

pub decimal_done : (n : ℕ) (ds : List ℕ) (i : ℕ) → length ds ≤ i → decimal_from n (drop i ds) ≡ n
decimal_done n ds i h = at_drop_all (decimal_from n) ds i h

pub every_at : (test : ℕ → Bool) (xs : List ℕ) (i : ℕ) → Every test xs → i < length xs → test (get_or xs i 0) ≡ true
every_at test [] i e h = absurd (omega arith)
every_at test (x ∷ xs) zero e h = e.0
every_at test (x ∷ xs) (suc i) e h = every_at test xs i e.1 (omega arith)

pub digit_at : (xs : List ℕ) (i : ℕ) → Every is_ascii_digit xs → i < length xs → (48 ≤ get_or xs i 0) × (get_or xs i 0 ≤ 57)
digit_at xs i e h = let d = every_at is_ascii_digit xs i e h in (grind (arith, nat_tests), grind (arith, nat_tests))
