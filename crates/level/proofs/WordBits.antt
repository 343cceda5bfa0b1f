-- Bit k of a word, letter by letter. Assumes nothing.
use Rattle.std.proofs.Common.{◌≡◌, ℕ, ◌-◌, ◌^◌, ◌<◌, ap, arith}
use Rattle.std.specs.Int.{w64}
use Rattle.std.specs.Int.Bits.{bit_and, bit_or, bit_xor}
use Rattle.std.proofs.lemmas.Nat.Bits.{bit_at_and, bit_at_or, bit_at_xor, bit_at_not, bit_at_ones, bit_at-lt}
use Rattle.level.specs.Letters.{one_l, not_l, and_l, or_l, xor_l, lane_letter, bit_letter}

pub and_lane : (a b k : ℕ) → lane_letter (bit_and a b) k ≡ and_l (lane_letter a k) (lane_letter b k)
and_lane a b k = grind (arith, bit_at_and a b k, bit_at-lt a k, bit_at-lt b k)

pub or_lane : (a b k : ℕ) → lane_letter (bit_or a b) k ≡ or_l (lane_letter a k) (lane_letter b k)
or_lane a b k = grind (arith, bit_at_or a b k, bit_at-lt a k, bit_at-lt b k)

pub xor_lane : (a b k : ℕ) → lane_letter (bit_xor a b) k ≡ xor_l (lane_letter a k) (lane_letter b k)
xor_lane a b k = grind (arith, bit_at_xor a b k, bit_at-lt a k, bit_at-lt b k)

pub not_lane : (a k : ℕ) → a < 2 ^ 64 → k < 64 → lane_letter (18446744073709551615 - a) k ≡ not_l (lane_letter a k)
not_lane a k low lane = grind (arith, bit_at_not w64 a k low lane, bit_at-lt a k)

pub one_lane : (k : ℕ) → k < 64 → lane_letter 18446744073709551615 k ≡ one_l
one_lane k lane = ap bit_letter (bit_at_ones 64 k lane)
