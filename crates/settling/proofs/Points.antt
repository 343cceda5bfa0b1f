-- Where the points of each symbol begin and end. Assumes nothing.
use Rattle.std.proofs.Common.{◌≡◌, ◌⊎◌, ℕ, zero, suc, ◌+◌, ◌-◌, ◌<◌, ◌≤◌, Bool, true, false, cond, ◌&&◌, ◌||◌, nat_lt, nat_le, ◌==◌, length, sym, refl, ap, ◌∙◌, subst, inl, inr, ⊎_elim, arith}
use Rattle.std.proofs.lemmas.Bool.{cases_Bool, cases_eq, cases_lt, cond-true, cond-false, or_cases, and_parts, or_left, or_right, and_from, lt-ltb, le-leb, ltb-true, leb-true, eqb-true, eq-eqb, le-ltb, or_from, and_right}
use Rattle.least.specs.Each.{IsRow}
use Rattle.database.specs.Rows.{Database}
use Rattle.control.specs.Points.{rank_of, width_of, sum_up_to, base, all_bits, input_bits, held_bits, point_of}
use Rattle.control.specs.Usable.{Usable}

module _ (f g : ℕ → ℕ) where
  pub sum_le : (n : ℕ) → ((i : ℕ) → i < n → f i ≤ g i) → sum_up_to f n ≤ sum_up_to g n
  unfolding sum_up_to
  sum_le zero h = omega arith
  sum_le (suc n) h = omega (arith, sum_le n (λ i l. h i (omega arith)), h n (omega arith))

  -- with room for e more at the place j
  pub sum_room : (e j n : ℕ) → ((i : ℕ) → i < n → f i ≤ g i) → j < n → f j + e ≤ g j → sum_up_to f n + e ≤ sum_up_to g n
  unfolding sum_up_to
  sum_room e j zero h low room = absurd (omega arith)
  sum_room e j (suc n) h low room =
      ⊎_elim
      (λ is. omega (arith, sum_le n (λ i l. h i (omega arith)), subst (λ i. f i + e ≤ g i) is room))
      (λ ne. omega (arith, sum_room e j n (λ i l. h i (omega arith)) (omega (arith, ne)) room, h n (omega arith)))
      (cases_eq j n)

-- a width that counts where a test holds
count_le : (s t : Bool) (n : ℕ) → (s ≡ true → t ≡ true) → cond s n 0 ≤ cond t n 0
count_le false t n h = omega arith
count_le true t n h = let e : cond t n 0 ≡ n = cond-true t n 0 (h refl) in omega arith

-- an order of numbers by ranks, and by themselves in a rank
module _ (rank : ℕ → ℕ) where
  abbrev Before : ℕ → ℕ → Type 0
  Before y z = (rank y < rank z) ⊎ ((rank y ≡ rank z) × (y < z))

  abbrev before : ℕ → ℕ → Bool
  before y z = nat_lt (rank y) (rank z) || (rank y == rank z && nat_lt y z)

  before_is : (y z : ℕ) → before y z ≡ true → Before y z
  before_is y z e =
      ⊎_elim
      (λ a. inl (ltb-true _ _ a))
      (λ b. let p = and_parts _ _ b in inr (eqb-true _ _ p.0, ltb-true _ _ p.1))
      (or_cases _ _ e)

  is_before : (y z : ℕ) → Before y z → before y z ≡ true
  is_before y z (inl a) = or_left _ _ (lt-ltb _ _ a)
  is_before y z (inr b) = or_right _ _ (and_from _ _ (eq-eqb _ _ b.0) (lt-ltb _ _ b.1))

  trans : (x y z : ℕ) → Before x y → Before y z → Before x z
  trans x y z (inl a) (inl b) = inl (omega arith)
  trans x y z (inl a) (inr b) = inl (omega arith)
  trans x y z (inr a) (inl b) = inl (omega arith)
  trans x y z (inr a) (inr b) = inr (omega arith, omega arith)

  total : (y z : ℕ) → (y ≡ z → ⊥) → Before y z ⊎ Before z y
  total y z ne =
      ⊎_elim (λ a. inl (inl a))
      (λ b. ⊎_elim (λ c. inr (inl c)) (λ d. ⊎_elim (λ e. inl (inr (omega arith, e))) (λ f. inr (inr (omega arith, omega (arith, ne)))) (cases_lt y z)) (cases_lt (rank z) (rank y)))
      (cases_lt (rank y) (rank z))

  not_both : (y z : ℕ) → Before y z → before z y ≡ true → ⊥
  not_both y z a e = ⊎_elim (λ b. ⊎_elim (λ c. omega arith) (λ c. omega (arith, c.0)) a) (λ b. ⊎_elim (λ c. omega (arith, b.0)) (λ c. omega (arith, b.1, c.1)) a) (before_is z y e)

  not_before : (y z : ℕ) → Before y z → before z y ≡ false
  not_before y z a = ⊎_elim (λ t. absurd (not_both y z a t)) (λ e. e) (cases_Bool (before z y))

  not_self : (y : ℕ) → before y y ≡ false
  not_self y = or_from _ _ (le-ltb (rank y) (rank y) (omega arith)) (and_right (rank y == rank y) _ (le-ltb y y (omega arith)))

  module _ (width : ℕ → ℕ) where
    -- what stands before a number, of the first n
    abbrev start : ℕ → ℕ → ℕ
    start n y = sum_up_to (λ i. cond (before (i + 1) y) (width (i + 1)) 0) n

    module _ (y : ℕ) (one : 1 ≤ y) where
      here : y - 1 + 1 ≡ y
      here = omega arith

      -- at its own place a number does not count, and then it does
      own : (t : ℕ → Bool) → t y ≡ true → cond (before (y - 1 + 1) y) (width (y - 1 + 1)) 0 + width y ≤ cond (t (y - 1 + 1)) (width (y - 1 + 1)) 0
      own t e = subst (λ v. cond (before v y) (width v) 0 + width y ≤ cond (t v) (width v) 0) (sym here)
          (let a : cond (before y y) (width y) 0 ≡ 0 = cond-false (before y y) _ _ (not_self y) in
          let b : cond (t y) (width y) 0 ≡ width y = cond-true (t y) _ _ e in
          omega arith)

      -- what stands before it and itself, among those that a test picks
      ends : (n : ℕ) → y ≤ n → (t : ℕ → Bool) → t y ≡ true → ((z : ℕ) → Before z y → t z ≡ true) → start n y + width y ≤ sum_up_to (λ i. cond (t (i + 1)) (width (i + 1)) 0) n
      ends n low t e h =
          sum_room _ _ (width y) (y - 1) n
          (λ i l. count_le (before (i + 1) y) (t (i + 1)) (width (i + 1)) (λ a. h (i + 1) (before_is (i + 1) y a)))
          (omega arith) (own t e)

      ends_before : (n : ℕ) → y ≤ n → (z : ℕ) → Before y z → start n y + width y ≤ start n z
      ends_before n low z a = ends n low (λ v. before v z) (is_before y z a) (λ v b. is_before v z (trans v y z b a))

    begins : (n y : ℕ) (t : ℕ → Bool) → ((z : ℕ) → t z ≡ true → Before z y) → sum_up_to (λ i. cond (t (i + 1)) (width (i + 1)) 0) n ≤ start n y
    begins n y t h = sum_le _ _ n (λ i l. count_le (t (i + 1)) (before (i + 1) y) (width (i + 1)) (λ e. is_before (i + 1) y (h (i + 1) e)))

    -- so many bits are met among the first n
    abbrev all_of : ℕ → ℕ
    all_of n = sum_up_to (λ i. width (i + 1)) n

    -- a bit of one of the first n stands at a place
    abbrev Found : ℕ → ℕ → Type 0
    Found n p = (y : ℕ) × (b : ℕ) × (1 ≤ y) × (y ≤ n) × (b < width y) × (p ≡ start n y + b)

    start_more : (n y : ℕ) → start (suc n) y ≡ start n y + cond (before (n + 1) y) (width (n + 1)) 0
    unfolding sum_up_to
    start_more n y = refl

    start_behind : (n y : ℕ) → Before (n + 1) y → start (suc n) y ≡ start n y + width (n + 1)
    start_behind n y a = start_more n y ∙ ap (λ k. start n y + k) (cond-true (before (n + 1) y) _ _ (is_before (n + 1) y a))

    start_ahead : (n y : ℕ) → before (n + 1) y ≡ false → start (suc n) y ≡ start n y
    start_ahead n y e = start_more n y ∙ (let z : cond (before (n + 1) y) (width (n + 1)) 0 ≡ 0 = cond-false (before (n + 1) y) _ _ e in let r : start n y + cond (before (n + 1) y) (width (n + 1)) 0 ≡ start n y = omega arith in r)

    start_own : (n : ℕ) → start (suc n) (n + 1) ≡ start n (n + 1)
    start_own n = start_ahead n (n + 1) (not_self (n + 1))

    -- one number more: a place before its bits, and one behind them
    found_ahead : (n p : ℕ) → p < start n (n + 1) → Found n p → Found (suc n) p
    found_ahead n p l (y, b, one, low, wide, is) =
        ⊎_elim
        (λ a. (y, b, one, omega arith, wide, omega (arith, start_ahead n y (not_before y (n + 1) a))))
        (λ a. let z = begins n y (λ v. before v (n + 1)) (λ v e. trans v (n + 1) y (before_is v (n + 1) e) a) in absurd (omega arith))
        (total y (n + 1) (λ e. omega arith))

    found_behind : (n p : ℕ) → start n (n + 1) ≤ p → Found n p → Found (suc n) (p + width (n + 1))
    found_behind n p l (y, b, one, low, wide, is) =
        ⊎_elim
        (λ a. let z = ends_before y one n low (n + 1) a in absurd (omega arith))
        (λ a. (y, b, one, omega arith, wide, omega (arith, start_behind n y a)))
        (total y (n + 1) (λ e. omega arith))

    found : (n p : ℕ) → p < all_of n → Found n p
    unfolding sum_up_to
    found zero p l = absurd (omega arith)
    found (suc n) p l =
        ⊎_elim
        (λ a. found_ahead n p a (found n p (omega (arith, sum_le (λ i. cond (before (i + 1) (n + 1)) (width (i + 1)) 0) (λ i. width (i + 1)) n (λ i k. count_le (before (i + 1) (n + 1)) true (width (i + 1)) (λ e. refl))))))
        (λ a.
        ⊎_elim
        (λ b. (n + 1, p - start n (n + 1), omega arith, omega arith, omega arith, omega (arith, start_own n)))
        (λ b. subst (Found (suc n)) (let z : p - width (n + 1) + width (n + 1) ≡ p = omega arith in z) (found_behind n (p - width (n + 1)) (omega arith) (found n (p - width (n + 1)) (omega arith))))
        (cases_lt p (start n (n + 1) + width (n + 1))))
        (cases_lt p (start n (n + 1)))

module _ (d : Database) where
  module _ (y : ℕ) (row : IsRow d.symbols y) where
    pub ends_within : base d y + width_of d y ≤ all_bits d
    unfolding base all_bits
    ends_within = ends (rank_of d) (width_of d) y row.0 (length d.symbols) row.1 (λ z. true) refl (λ z a. refl)

    pub ends_held : rank_of d y ≤ 2 → base d y + width_of d y ≤ held_bits d
    unfolding base held_bits
    ends_held c =
        ends (rank_of d) (width_of d) y row.0 (length d.symbols) row.1 (λ z. nat_le (rank_of d z) 2) (le-leb _ 2 c)
        (λ z a. le-leb _ 2 (⊎_elim (λ b. omega arith) (λ b. omega (arith, b.0)) a))

    pub ends_first : rank_of d y ≤ 1 → base d y + width_of d y ≤ input_bits d
    unfolding base input_bits
    ends_first c =
        ends (rank_of d) (width_of d) y row.0 (length d.symbols) row.1 (λ z. nat_le (rank_of d z) 1) (le-leb _ 1 c)
        (λ z a. le-leb _ 1 (⊎_elim (λ b. omega arith) (λ b. omega (arith, b.0)) a))

    pub ends_input : rank_of d y ≡ 1 → base d y + width_of d y ≤ input_bits d
    ends_input c = ends_first (omega arith)

  pub starts_behind : (y : ℕ) → 2 ≤ rank_of d y → input_bits d ≤ base d y
  unfolding base input_bits
  starts_behind y c = begins (rank_of d) (width_of d) (length d.symbols) y (λ z. nat_le (rank_of d z) 1) (λ z e. inl (omega (arith, leb-true (rank_of d z) 1 e)))

  pub starts_registers : (y : ℕ) → rank_of d y ≡ 2 → input_bits d ≤ base d y
  starts_registers y c = starts_behind y (omega arith)

  pub starts_driven : (y : ℕ) → 3 ≤ rank_of d y → held_bits d ≤ base d y
  unfolding base held_bits
  starts_driven y c = begins (rank_of d) (width_of d) (length d.symbols) y (λ z. nat_le (rank_of d z) 2) (λ z e. inl (omega (arith, leb-true (rank_of d z) 2 e)))

  pub inputs_held : input_bits d ≤ held_bits d
  unfolding input_bits held_bits
  inputs_held = sum_le _ _ (length d.symbols) (λ i l. count_le (nat_le (rank_of d (i + 1)) 1) (nat_le (rank_of d (i + 1)) 2) (width_of d (i + 1)) (λ e. le-leb _ 2 (omega (arith, leb-true (rank_of d (i + 1)) 1 e))))

  pub held_within : held_bits d ≤ all_bits d
  unfolding held_bits all_bits
  held_within = sum_le _ _ (length d.symbols) (λ i l. count_le (nat_le (rank_of d (i + 1)) 2) true (width_of d (i + 1)) (λ e. refl))

  pub bits_few : Usable d → all_bits d ≤ 1024
  bits_few u = u.few_bits

  -- every place is that of some symbol's bit
  pub found_point : (p : ℕ) → p < all_bits d → (y : ℕ) × (b : ℕ) × IsRow d.symbols y × (b < width_of d y) × (p ≡ point_of d y b)
  unfolding base all_bits
  found_point p l = let (y, b, one, low, wide, is) = found (rank_of d) (width_of d) (length d.symbols) p l in (y, b, (one, low), wide, is)

  pub found_input : (p : ℕ) → p < input_bits d → (y : ℕ) × (b : ℕ) × IsRow d.symbols y × (rank_of d y ≤ 1) × (b < width_of d y) × (p ≡ point_of d y b)
  found_input p l =
      let (y, b, row, wide, is) = found_point p (omega (arith, inputs_held, held_within)) in
      ⊎_elim (λ c. (y, b, row, omega arith, wide, is)) (λ c. absurd (omega (arith, starts_behind y c))) (cases_lt (rank_of d y) 2)

  pub found_held : (p : ℕ) → p < held_bits d → (y : ℕ) × (b : ℕ) × IsRow d.symbols y × (rank_of d y ≤ 2) × (b < width_of d y) × (p ≡ point_of d y b)
  found_held p l =
      let (y, b, row, wide, is) = found_point p (omega (arith, held_within)) in
      ⊎_elim (λ c. (y, b, row, omega arith, wide, is)) (λ c. absurd (omega (arith, starts_driven y c))) (cases_lt (rank_of d y) 3)

  pub found_register : (p : ℕ) → input_bits d ≤ p → p < held_bits d → (y : ℕ) × (b : ℕ) × IsRow d.symbols y × (rank_of d y ≡ 2) × (b < width_of d y) × (p ≡ point_of d y b)
  found_register p from l =
      let (y, b, row, low, wide, is) = found_held p l in
      ⊎_elim (λ c. absurd (omega (arith, ends_first y row (omega arith)))) (λ c. (y, b, row, omega arith, wide, is)) (cases_lt (rank_of d y) 2)

  pub found_driven : (p : ℕ) → held_bits d ≤ p → p < all_bits d → (y : ℕ) × (b : ℕ) × IsRow d.symbols y × (3 ≤ rank_of d y) × (b < width_of d y) × (p ≡ point_of d y b)
  found_driven p from l =
      let (y, b, row, wide, is) = found_point p l in
      ⊎_elim (λ c. absurd (omega (arith, ends_held y row (omega arith)))) (λ c. (y, b, row, c, wide, is)) (cases_lt (rank_of d y) 3)

  module _ (y z b c : ℕ) (yrow : IsRow d.symbols y) (zrow : IsRow d.symbols z) (inside : b < width_of d y) (within : c < width_of d z) (same : point_of d y b ≡ point_of d z c) where
    -- bits of different symbols have different points
    pub apart : y ≡ z
    unfolding base
    apart =
        ⊎_elim (λ is. is)
        (λ ne. absurd (⊎_elim
        (λ a. omega (arith, ends_before (rank_of d) (width_of d) y yrow.0 (length d.symbols) yrow.1 z a))
        (λ a. omega (arith, ends_before (rank_of d) (width_of d) z zrow.0 (length d.symbols) zrow.1 y a))
        (total (rank_of d) y z ne)))
        (cases_eq y z)

    -- and so have different bits of one
    pub same_bit : b ≡ c
    same_bit = let e : base d y ≡ base d z = ap (base d) apart in omega arith
