-- Counts of the bits of symbols. Assumes nothing.
use Rattle.std.proofs.Common.{◌≡◌, ℕ, zero, suc, ◌+◌, ◌<◌, ◌≤◌, Bool, true, false, cond, nat_le, length, get_or, refl, ap, ap₂, ◌∙◌, sym, add-one, arith}
use Rattle.std.proofs.lemmas.Bool.{cond-true, cond-false}
use Rattle.std.proofs.lemmas.Bool.Decides.{nat_tests}
use Rattle.symbols.specs.Items.{most_declared_bits}
use Rattle.database.specs.Codes.{class_of}
use Rattle.database.specs.Rows.{Database, no_symbol}
use Rattle.control.specs.Points.{rank, rank_of, width_of, sum_up_to, bits_where, base, all_bits, input_bits, held_bits}
use Rattle.control.specs.Usable.{Usable}
use Rattle.settling.proofs.Points.{inputs_held}
use Rattle.settling.proofs.UsableRows.{row_is, sum_part}
use Rattle.design.specs.Inner.{before}

-- one more number
pub sum_more : (f : ℕ → ℕ) (n : ℕ) → sum_up_to f (n + 1) ≡ sum_up_to f n + f n
unfolding sum_up_to
sum_more f n = ap (sum_up_to f) (add-one n)

-- the sum of none
pub sum_zero : (f : ℕ → ℕ) → sum_up_to f 0 ≡ 0
unfolding sum_up_to
sum_zero f = refl

-- sums of the same numbers, and of smaller ones
sums_same : (f g : ℕ → ℕ) (n : ℕ) → ((i : ℕ) → i < n → f i ≡ g i) → sum_up_to f n ≡ sum_up_to g n
unfolding sum_up_to
sums_same f g zero same = refl
sums_same f g (suc n) same = ap₂ (λ a b. a + b) (sums_same f g n (λ i h. same i (omega arith))) (same n (omega arith))

sums_below : (f g : ℕ → ℕ) (n : ℕ) → ((i : ℕ) → f i ≤ g i) → sum_up_to f n ≤ sum_up_to g n
unfolding sum_up_to
sums_below f g zero below = omega arith
sums_below f g (suc n) below = omega (arith, sums_below f g n below, below n)

cond_below : (t : Bool) (n : ℕ) → cond t n 0 ≤ n
cond_below true n = omega arith
cond_below false n = omega arith

module _ (d : Database) (f : ℕ → Bool) where
  -- the bits of the first symbols that a test picks
  abbrev pub picked : ℕ → ℕ
  picked n = sum_up_to (λ i. cond (f (i + 1)) (width_of d (i + 1)) 0) n

  abbrev own : ℕ → ℕ
  own k = (get_or d.symbols k no_symbol).width

  own_width : (k : ℕ) → width_of d (k + 1) ≡ own k
  own_width k = ap (λ x. x.width) (row_is no_symbol d.symbols k)

  -- there is room for one more symbol
  pub room : (k : ℕ) → Usable d → k < length d.symbols → picked k + own k ≤ most_declared_bits
  unfolding all_bits
  room k u h =
      let few = u.few_bits in
      let all : sum_up_to (λ i. width_of d (i + 1)) k + width_of d (k + 1) ≤ all_bits d = sum_part (λ i. width_of d (i + 1)) (length d.symbols) k h in
      omega (arith, few, all, own_width k, sums_below (λ i. cond (f (i + 1)) (width_of d (i + 1)) 0) (λ i. width_of d (i + 1)) k (λ i. cond_below (f (i + 1)) (width_of d (i + 1))))

  pub counted_in : (k : ℕ) → f (k + 1) ≡ true → picked k + own k ≡ picked (k + 1)
  counted_in k e = omega (arith, sum_more (λ i. cond (f (i + 1)) (width_of d (i + 1)) 0) k, cond-true (f (k + 1)) (width_of d (k + 1)) 0 e, own_width k)

  pub left_out : (k : ℕ) → f (k + 1) ≡ false → picked k ≡ picked (k + 1)
  left_out k e = omega (arith, sum_more (λ i. cond (f (i + 1)) (width_of d (i + 1)) 0) k, cond-false (f (k + 1)) (width_of d (k + 1)) 0 e)

module _ (d : Database) where
  -- the first point of a symbol, by the rank of what stands in its row
  pub base_is : (k place : ℕ) → place ≡ rank (class_of (get_or d.symbols k no_symbol).class) → bits_where d (λ z. before d place (k + 1) z) ≡ base d (k + 1)
  unfolding base
  base_is k place e = ap (λ p. bits_where d (λ z. before d p (k + 1) z)) (e ∙ ap (λ x. rank (class_of x.class)) (sym (row_is no_symbol d.symbols k)))

  -- what stands before the ranks behind those of inputs, of memory and of all
  pub inputs : bits_where d (λ z. before d 2 0 z) ≡ input_bits d
  unfolding input_bits
  inputs = sums_same _ _ (length d.symbols) (λ i h. let z : before d 2 0 (i + 1) ≡ nat_le (rank_of d (i + 1)) 1 = grind (arith, nat_tests) in ap (λ t. cond t (width_of d (i + 1)) 0) z)

  pub held : bits_where d (λ z. before d 3 0 z) ≡ held_bits d
  unfolding held_bits
  held = sums_same _ _ (length d.symbols) (λ i h. let z : before d 3 0 (i + 1) ≡ nat_le (rank_of d (i + 1)) 2 = grind (arith, nat_tests) in ap (λ t. cond t (width_of d (i + 1)) 0) z)

  pub all : Usable d → bits_where d (λ z. before d 5 0 z) ≡ all_bits d
  unfolding all_bits
  all u =
      sums_same _ (λ i. width_of d (i + 1)) (length d.symbols) (λ i h.
      let last = (u.symbols (i + 1) (omega arith, omega arith)).last_class in
      let z : before d 5 0 (i + 1) ≡ true = grind (arith, nat_tests) in
      cond-true (before d 5 0 (i + 1)) (width_of d (i + 1)) 0 z)

-- inputs are held
pub inputs_within : (d : Database) → input_bits d ≤ held_bits d
inputs_within d = inputs_held d
