-- Bit strings without faults: each has a width, and a value that fits it. Assumes nothing.
use Rattle.std.proofs.Common.{◌≡◌, ℕ, zero, suc, ◌+◌, ◌-◌, ◌*◌, ◌%◌, ◌^◌, ◌<◌, ◌≤◌, false, List, [], ◌∷◌, length, take, Option, Some, None, nat_lt, sym, refl, ap, ◌∙◌, subst, pow-suc, add-one, arith}
use Rattle.std.proofs.Math.Nat.{mod-le}
use Rattle.grammar.specs.declared.draft.Listed.{Listed}
use Rattle.least.specs.Each.{row_at, last_of, IsRow}
use Rattle.rules.specs.declared.measures.BitString.{BitString}
use Rattle.symbols.specs.Widths.{disagree, wide, comma_faults, width_up_to}
use Rattle.rules.specs.Strings.{no_string, bit_faults, bit_width, digit_faults, value_up_to, string_up_to, strings, digits_faults, string_at}
use Rattle.soundness.specs.Layout.{FirstPlain}
use Rattle.database.specs.Soundness.{IsWidth}
use Rattle.soundness.proofs.Nil.{nil_left, nil_right, test_false, width_kept, row_grown, nil_grown, last_taken, length_grown}
use Rattle.soundness.proofs.Widths.{none_some, not_wide, both_widths}

-- before the first integer
abbrev pub no_digit : Listed
no_digit = record { comma = None; integer = record { place = 0; value = 0 } }

-- a string has a width, and its value has no more bits
pub record StringFits (s : BitString) : Type 0 where
  pub bits : ℕ
  pub width : s.width ≡ Some bits
  pub fits : IsWidth bits
  pub value : s.value < 2 ^ bits

one_bit : (d : Listed) → bit_faults d ≡ [] → (bit_width d ≡ Some 1) × (d.integer.value ≤ 1)
one_bit d e =
    let t : nat_lt 1 d.integer.value ≡ false = test_false _ _ _ e in
    let v : d.integer.value ≤ 1 = grind arith in
    (width_kept (bit_faults d) (Some 1) e, v)

-- one bit more
longer : (v w bit : ℕ) → v < 2 ^ w → bit ≤ 1 → (2 * v + bit) % 4294967296 < 2 ^ (w + 1)
longer v w bit h b =
    let p : 2 ^ (w + 1) ≡ 2 ^ w * 2 = ap (λ k. 2 ^ k) (add-one w) ∙ pow-suc 2 w in
    let m = mod-le (2 * v + bit) 4294967296 in
    omega arith

-- a string by the comma before its last integer
fits_by : (d : Listed) (before : BitString) (comma : Option ℕ)
    → bit_faults d ≡ [] → comma_faults comma before.width (bit_width d) ≡ [] → ((place : ℕ) → comma ≡ Some place → StringFits before)
    → StringFits (record { width = width_up_to comma before.width (bit_width d); value = value_up_to comma before.value d.integer.value })
fits_by d before None b c rest =
    let o = one_bit d b in
    let v : d.integer.value ≤ 1 = o.1 in
    let p : d.integer.value < 2 ^ 1 = omega arith in
    let one : IsWidth 1 = (omega arith, omega arith) in
    record { bits = 1; width = o.0; fits = one; value = p }
fits_by d before (Some place) b c rest =
    let o = one_bit d b in
    let r = rest place refl in
    let v : d.integer.value ≤ 1 = o.1 in
    let s : r.bits + 1 ≤ 32 = not_wide place before.width (bit_width d) r.bits 1 r.width o.0 c in
    let f : IsWidth (r.bits + 1) = (omega arith, s) in
    record {
      bits = r.bits + 1;
      width = width_kept (disagree wide place before.width (bit_width d)) _ c ∙ both_widths ◌+◌ before.width (bit_width d) r.bits 1 r.width o.0;
      fits = f;
      value = longer before.value r.bits d.integer.value r.value v;
    }

-- the first integer is behind no comma
first_plain : (digits : List Listed) → FirstPlain digits → (n place : ℕ) → IsRow digits n → (row_at no_digit digits n).comma ≡ Some place → 2 ≤ n
first_plain digits first zero place h e = absurd (let a = h.0 in omega arith)
first_plain [] first (suc n) place h e = absurd (let a = h.1 in omega arith)
first_plain (d ∷ ds) first (suc zero) place h e = absurd (none_some place (sym first ∙ e))
first_plain (d ∷ ds) first (suc (suc n)) place h e = omega arith

module _ (digits : List Listed) (first : FirstPlain digits) (none : digits_faults digits ≡ []) where
  fits_up_to : (m n : ℕ) → n ≤ m → IsRow digits n → StringFits (string_at (strings digits) n)
  fits_up_to zero n le h = absurd (let a = h.0 in omega arith)
  fits_up_to (suc m) n le h =
      let d : Listed = row_at no_digit digits n in
      let front : List BitString = take (n - 1) (strings digits) in
      let f : digit_faults front d ≡ [] = nil_grown digit_faults string_up_to digits n no_digit h none in
      let long : length (strings digits) ≡ length digits = length_grown string_up_to digits in
      let l : last_of no_string front ≡ string_at (strings digits) (n - 1) = last_taken no_string (strings digits) (n - 1) (let b = h.1 in omega arith) in
      let s : StringFits (string_up_to front d) =
      fits_by d (last_of no_string front) d.comma (nil_left _ _ f) (nil_right (bit_faults d) _ f)
      (λ place e. let two = first_plain digits first n place h e in subst StringFits (sym l) (fits_up_to m (n - 1) (omega arith) (omega arith, let b = h.1 in omega arith))) in
      subst StringFits (sym (row_grown string_up_to digits n no_digit no_string h)) s

  pub string_fits : (n : ℕ) → IsRow digits n → StringFits (string_at (strings digits) n)
  string_fits n h = fits_up_to n n (omega arith) h
