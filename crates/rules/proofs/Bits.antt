-- What bit strings come to. Assumes nothing.
use Rattle.std.proofs.Common.{◌≡◌, ℕ, suc, ◌+◌, ◌*◌, ◌/◌, ◌%◌, ◌^◌, ◌<◌, ◌≤◌, false, cond, nat_lt, List, [], ◌∷◌, ◌++◌, length, Option, Some, None, sym, refl, ap, ◌∙◌, subst, true≢false, pow-suc, add-one, arith, append_assoc, append-nil}
use Rattle.std.specs.Prelude.{IsSome}
use Rattle.std.proofs.lemmas.Bool.Decides.{nat_tests}
use Rattle.std.proofs.Math.Nat.{mod-eq_of_lt}
use Rattle.std.proofs.Math.Pow.{pow_mono}
use Rattle.grammar.specs.declared.draft.Listed.{Listed}
use Rattle.least.specs.Order.{fault_if}
use Rattle.least.specs.Each.{grown_after, last_of}
use Rattle.least.proofs.Lists.{last_push, grown_append}
use Rattle.symbols.specs.Widths.{unless_faulty, both, disagree, wide, width_up_to}
use Rattle.least.specs.declared.rule.Rule.TheVariants.{OutOfRange, Widths}
use Rattle.rules.specs.declared.measures.BitString.{BitString}
use Rattle.rules.specs.Strings.{no_string, bit_width, value_up_to, string_up_to, strings, bits_of}
use Rattle.rules.specs.Laws.{MoreBits, IsString, integers_of, StringsSay}

-- what is known of a string of so many integers, whose values are these
record Known (s : BitString) (n : ℕ) (bits : List ℕ) : Type 0 where
  width : s.width ≡ Some n
  small : s.value < 2 ^ n
  says : bits_of n s.value ≡ bits

-- an integer that is 0 or 1 has one bit
one_bit : (d : Listed) → d.integer.value ≤ 1 → bit_width d ≡ Some 1
one_bit d h =
    let t : nat_lt 1 d.integer.value ≡ false = grind (arith, nat_tests) in
    ap (λ t. unless_faulty (cond t (record { place = d.integer.place; rule = OutOfRange } ∷ []) []) (Some 1)) t

-- a string of one integer
first : (before : List BitString) (d : Listed) → d.comma ≡ None → d.integer.value ≤ 1 → Known (string_up_to before d) 1 (d.integer.value ∷ [])
first before d c h =
    let p : 2 ^ 1 ≡ 2 = refl in
    let v : value_up_to d.comma (last_of no_string before).value d.integer.value ≡ d.integer.value = ap (λ o. value_up_to o (last_of no_string before).value d.integer.value) c in
    let m : d.integer.value % 2 ≡ d.integer.value = omega arith in
    record {
      width = ap (λ o. width_up_to o (last_of no_string before).width (bit_width d)) c ∙ one_bit d h;
      small = omega (arith, v, p);
      says = ap (bits_of 1) v ∙ ap (λ n. n ∷ []) m;
    }

-- an integer more, behind a comma
next_by : (o : Option ℕ) (s : BitString) (w : Option ℕ) (b n : ℕ) (bits : List ℕ) → Known s n bits → IsSome o → b ≤ 1 → n + 1 ≤ 32 → w ≡ Some 1 → Known (record { width = width_up_to o s.width w; value = value_up_to o s.value b }) (n + 1) (bits ++ b ∷ [])
next_by None s w b n bits k c h l e = absurd (true≢false (sym c))
next_by (Some place) s w b n bits k c h l e =
    let two : 2 ^ (n + 1) ≡ 2 ^ n * 2 = ap (λ m. 2 ^ m) (add-one n) ∙ pow-suc 2 n in
    let top : 2 ^ (n + 1) ≤ 2 ^ 32 = pow_mono l in
    let v : s.value < 2 ^ n = k.small in
    let sum : 2 * s.value + b < 2 ^ (n + 1) = omega arith in
    let kept : (2 * s.value + b) % 2 ^ 32 ≡ 2 * s.value + b = mod-eq_of_lt (omega arith) in
    let half : (2 * s.value + b) / 2 ≡ s.value = omega arith in
    let low : (2 * s.value + b) % 2 ≡ b = omega arith in
    let narrow : nat_lt 32 (n + 1) ≡ false = grind (arith, nat_tests) in
    record {
      width = (λ i. unless_faulty (disagree wide place (k.width i) (e i)) (both ◌+◌ (k.width i) (e i)))
          ∙ ap (λ t. unless_faulty (fault_if t place Widths) (Some (n + 1))) narrow;
      small = omega (arith, kept, sum);
      says = ap (bits_of (n + 1)) kept ∙ ap (λ m. bits_of m (2 * s.value + b)) (add-one n) ∙ (λ i. bits_of n (half i) ++ low i ∷ []) ∙ ap (λ (xs : List ℕ). xs ++ b ∷ []) k.says;
    }

next : (before : List BitString) (d : Listed) (n : ℕ) (bits : List ℕ) → Known (last_of no_string before) n bits → IsSome d.comma → d.integer.value ≤ 1 → n + 1 ≤ 32 → Known (string_up_to before d) (n + 1) (bits ++ d.integer.value ∷ [])
next before d n bits k c h l = next_by d.comma (last_of no_string before) (bit_width d) d.integer.value n bits k c h l (one_bit d h)

-- all that are left
rest : (done : List BitString) (ds : List Listed) (n : ℕ) (bits : List ℕ) → Known (last_of no_string done) n bits → MoreBits ds → n + length ds ≤ 32 → Known (last_of no_string (grown_after string_up_to done ds)) (n + length ds) (bits ++ integers_of ds)
rest done [] n bits k m l = let z : n + 0 ≡ n = omega arith in subst (λ (x : ℕ × List ℕ). Known (last_of no_string done) x.0 x.1) (λ i. (sym z i, sym (append-nil bits) i)) k
rest done (d ∷ ds) n bits k m l =
    let few : n + 1 + length ds ≤ 32 = omega arith in
    let one : n + 1 ≤ 32 = omega arith in
    let more = rest (done ++ string_up_to done d ∷ []) ds (n + 1) (bits ++ d.integer.value ∷ []) (subst (λ s. Known s (n + 1) (bits ++ d.integer.value ∷ [])) (sym (last_push no_string done (string_up_to done d))) (next done d n bits k m.0 m.1 one)) m.2 few in
    let z : n + 1 + length ds ≡ n + suc (length ds) = omega arith in
    subst (λ (x : ℕ × List ℕ). Known (last_of no_string (grown_after string_up_to (done ++ string_up_to done d ∷ []) ds)) x.0 x.1) (λ i. (z i, append_assoc bits (d.integer.value ∷ []) (integers_of ds) i)) more

known : (others own : List Listed) → IsString own → length own ≤ 32 → Known (last_of no_string (strings (others ++ own))) (length own) (integers_of own)
known others [] s l = absurd s
known others (d ∷ ds) s l =
    let before = strings others in
    let fits : 1 + length ds ≤ 32 = omega arith in
    let one : 1 + length ds ≡ suc (length ds) = omega arith in
    let k = rest (before ++ string_up_to before d ∷ []) ds 1 (d.integer.value ∷ []) (subst (λ x. Known x 1 (d.integer.value ∷ [])) (sym (last_push no_string before (string_up_to before d))) (first before d s.0 s.1)) s.2 fits in
    subst (λ (x : List BitString × ℕ). Known (last_of no_string x.0) x.1 (integers_of (d ∷ ds))) (λ i. (sym (grown_append string_up_to [] others (d ∷ ds)) i, one i)) k

pub strings_say : StringsSay
strings_say others own s l = let k = known others own s l in (k.width, k.says)
