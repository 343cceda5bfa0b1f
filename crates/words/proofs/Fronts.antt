-- The word that a text begins with. Assumes nothing.
use Rattle.std.proofs.Common.{◌≡◌, ℕ, zero, suc, ◌+◌, ◌-◌, ◌<◌, ◌≤◌, Bool, List, [], ◌∷◌, ◌++◌, length, take, drop, sym, refl, ap, ◌∙◌, subst, true≢false, take-append-drop, take_at, drop_at, arith, length-append}
use Rattle.std.specs.List.{prefix_len}
use Rattle.std.specs.Char.{is_ascii_alphabetic, is_ascii_digit}
use Rattle.words.specs.declared.token.Sign.{Sign}
use Rattle.words.specs.declared.token.Kind.{Kind}
use Rattle.words.specs.declared.token.Kind.TheVariants.{Integer, Mark}
use Rattle.words.specs.declared.faults.WordFault.TheVariants.{NoWord, LongName, LargeInteger}
use Rattle.words.specs.Spelling.{in_name, Every, sign_text, Lettered, Digits, OneWord, lettered, digits, sign, Longest, Says, longest_name, most_digits, largest_integer, decimal_value}
use Rattle.words.specs.Inner.{Starts, BytesBegin, Stops, NoSign, FirstSign, RightWord, BeginsWrong}
use Rattle.words.proofs.Bytes.{lead, first, letter_in_name, lead_lettered, lead_digits, lead_mark, every_right}
use Rattle.words.proofs.Signs.{sign_longest}
use Rattle.words.proofs.Runs.{Run, run_at}

-- more bytes behind a word that do not go on with it
first_more : (bytes more : List ℕ) (n : ℕ) → lead (first bytes) ≡ n → n < 2 → first (bytes ++ more) ≡ first bytes
first_more [] more n e l = let z : lead 0 ≡ 2 = refl in absurd (omega arith)
first_more (b ∷ bs) more n e l = refl

every_behind : (test : ℕ → Bool) (bytes : List ℕ) (b : ℕ) (more rest others : List ℕ) → Every test (bytes ++ b ∷ more) → Stops test rest → rest ≡ b ∷ (more ++ others) → ⊥
every_behind test bytes b more rest others h s e =
    let z : Stops test (b ∷ (more ++ others)) = subst (Stops test) e s in
    true≢false (sym (every_right test bytes (b ∷ more) h).0 ∙ z)

lettered_more : (bytes : List ℕ) (b : ℕ) (more : List ℕ) → Lettered (bytes ++ b ∷ more) → Lettered bytes → Every in_name (bytes ++ b ∷ more)
lettered_more [] b more h l = absurd l
lettered_more (c ∷ cs) b more h l = (letter_in_name c h.0, h.1)

digits_more : (bytes : List ℕ) (b : ℕ) (more : List ℕ) → Digits (bytes ++ b ∷ more) → Every is_ascii_digit (bytes ++ b ∷ more)
digits_more [] b more h = h
digits_more (c ∷ cs) b more h = h

longer_lettered : (bytes rest : List ℕ) → Lettered bytes → Stops in_name rest → (b : ℕ) (more others : List ℕ) → rest ≡ b ∷ (more ++ others) → OneWord (bytes ++ b ∷ more) → ⊥
longer_lettered bytes rest l s b more others e (lettered h) = every_behind in_name bytes b more rest others (lettered_more bytes b more h l) s e
longer_lettered bytes rest l s b more others e (digits h) =
    let x = lead_lettered bytes l in let y = lead_digits (bytes ++ b ∷ more) h in let z = ap lead (first_more bytes (b ∷ more) 0 x (omega arith)) in omega arith
longer_lettered bytes rest l s b more others e (sign t h) =
    let x = lead_lettered bytes l in let y = lead_mark (bytes ++ b ∷ more) t h in let z = ap lead (first_more bytes (b ∷ more) 0 x (omega arith)) in omega arith

longer_digits : (bytes rest : List ℕ) → Digits bytes → Stops is_ascii_digit rest → (b : ℕ) (more others : List ℕ) → rest ≡ b ∷ (more ++ others) → OneWord (bytes ++ b ∷ more) → ⊥
longer_digits bytes rest l s b more others e (lettered h) =
    let x = lead_digits bytes l in let y = lead_lettered (bytes ++ b ∷ more) h in let z = ap lead (first_more bytes (b ∷ more) 1 x (omega arith)) in omega arith
longer_digits bytes rest l s b more others e (digits h) = every_behind is_ascii_digit bytes b more rest others (digits_more bytes b more h) s e
longer_digits bytes rest l s b more others e (sign t h) =
    let x = lead_digits bytes l in let y = lead_mark (bytes ++ b ∷ more) t h in let z = ap lead (first_more bytes (b ∷ more) 1 x (omega arith)) in omega arith

lettered_longest : (bytes rest : List ℕ) → Lettered bytes → Stops in_name rest → Longest bytes rest
lettered_longest bytes rest l s = record { one = lettered l; no_longer = longer_lettered bytes rest l s }

digits_longest : (bytes rest : List ℕ) → Digits bytes → Stops is_ascii_digit rest → Longest bytes rest
digits_longest bytes rest d s = record { one = digits d; no_longer = longer_digits bytes rest d s }

-- a run that begins with a letter
run_lettered : (text : List ℕ) (n : ℕ) → BytesBegin is_ascii_alphabetic text → Run in_name text n → Lettered (take n text)
run_lettered [] n h r = absurd h
run_lettered (b ∷ bs) zero h r = absurd (true≢false (sym (letter_in_name b h) ∙ r.stops))
run_lettered (b ∷ bs) (suc n) h r = (h, r.every.1)

run_digits : (text : List ℕ) (n : ℕ) → BytesBegin is_ascii_digit text → Run is_ascii_digit text n → Digits (take n text)
run_digits [] n h r = absurd h
run_digits (b ∷ bs) zero h r = absurd (true≢false (sym h ∙ r.stops))
run_digits (b ∷ bs) (suc n) h r = r.every

-- names and keywords
pub name_bytes : (text : List ℕ) (n : ℕ) → BytesBegin is_ascii_alphabetic text → n ≡ prefix_len in_name text → Lettered (take n text)
name_bytes text n h e = run_lettered text n h (run_at in_name text n e)

name_longest : (text : List ℕ) (n : ℕ) → BytesBegin is_ascii_alphabetic text → n ≡ prefix_len in_name text → Longest (take n text) (drop n text)
name_longest text n h e = lettered_longest (take n text) (drop n text) (name_bytes text n h e) (run_at in_name text n e).stops

pub name_right : (text : List ℕ) (n : ℕ) (kind : Kind) → BytesBegin is_ascii_alphabetic text → n ≡ prefix_len in_name text → Says (take n text) kind → RightWord text kind n
name_right text n kind h e s = record { within = (run_at in_name text n e).within; longest = name_longest text n h e; says = s }

pub name_wrong : (text : List ℕ) (n p : ℕ) → BytesBegin is_ascii_alphabetic text → n ≡ prefix_len in_name text → longest_name < length (take n text) → BeginsWrong text p (LongName p)
name_wrong [] n p h e l = h
name_wrong (b ∷ bs) n p h e l = (refl, take n (b ∷ bs), drop n (b ∷ bs), sym (take-append-drop n (b ∷ bs)), name_longest (b ∷ bs) n h e, name_bytes (b ∷ bs) n h e, l)

-- integers
pub integer_bytes : (text : List ℕ) (n : ℕ) → n ≡ prefix_len is_ascii_digit text → Every is_ascii_digit (take n text)
integer_bytes text n e = (run_at is_ascii_digit text n e).every

integer_digits : (text : List ℕ) (n : ℕ) → BytesBegin is_ascii_digit text → n ≡ prefix_len is_ascii_digit text → Digits (take n text)
integer_digits text n h e = run_digits text n h (run_at is_ascii_digit text n e)

integer_longest : (text : List ℕ) (n : ℕ) → BytesBegin is_ascii_digit text → n ≡ prefix_len is_ascii_digit text → Longest (take n text) (drop n text)
integer_longest text n h e = digits_longest (take n text) (drop n text) (integer_digits text n h e) (run_at is_ascii_digit text n e).stops

pub integer_right : (text : List ℕ) (n v : ℕ) → BytesBegin is_ascii_digit text → n ≡ prefix_len is_ascii_digit text → v ≡ decimal_value (take n text) → length (take n text) ≤ most_digits → v ≤ largest_integer → RightWord text (Integer v) n
integer_right text n v h e s t u = record { within = (run_at is_ascii_digit text n e).within; longest = integer_longest text n h e; says = (integer_digits text n h e, s, t, u) }

pub integer_wrong : (text : List ℕ) (n p : ℕ) → BytesBegin is_ascii_digit text → n ≡ prefix_len is_ascii_digit text → (length (take n text) ≤ most_digits → decimal_value (take n text) ≤ largest_integer → ⊥) → BeginsWrong text p (LargeInteger p)
integer_wrong [] n p h e l = h
integer_wrong (b ∷ bs) n p h e l = (refl, take n (b ∷ bs), drop n (b ∷ bs), sym (take-append-drop n (b ∷ bs)), integer_longest (b ∷ bs) n h e, integer_digits (b ∷ bs) n h e, l)

-- signs
sign_parts : (bytes rest : List ℕ) (n : ℕ) → n + length rest ≡ length (bytes ++ rest) → n ≡ length bytes
sign_parts bytes rest n e = omega (arith, length-append bytes rest)

right_sign : (text bytes rest : List ℕ) (s : Sign) (n : ℕ) → text ≡ bytes ++ rest → n ≡ length bytes → bytes ≡ sign_text s → Longest bytes rest → RightWord text (Mark s) n
right_sign text bytes rest s n e l w h =
    let front : take n text ≡ bytes = ap (take n) e ∙ take_at bytes rest n (sym l) in
    let back : drop n text ≡ rest = ap (drop n) e ∙ drop_at bytes rest n (sym l) in
    record {
      within = omega (arith, ap (length {A = ℕ}) e, length-append bytes rest);
      longest = subst (λ (xs : List ℕ). Longest xs (drop n text)) (sym front) (subst (Longest bytes) (sym back) h);
      says = front ∙ w;
    }

pub sign_within : (text : List ℕ) (s : Sign) (rest : List ℕ) → FirstSign text s rest → length rest ≤ length text
sign_within text s rest x = omega (arith, ap (length {A = ℕ}) x.0, length-append (sign_text s) rest)

pub sign_right : (text : List ℕ) (s : Sign) (rest : List ℕ) (n : ℕ) → FirstSign text s rest → n ≡ length text - length rest → RightWord text (Mark s) n
sign_right text s rest n x l = right_sign text (sign_text s) rest s n x.0 (omega (arith, ap (length {A = ℕ}) x.0, length-append (sign_text s) rest)) refl (sign_longest text s rest x)

no_word : (text : List ℕ) → (BytesBegin is_ascii_alphabetic text → ⊥) → (BytesBegin is_ascii_digit text → ⊥) → NoSign text → (bytes rest : List ℕ) → text ≡ bytes ++ rest → OneWord bytes → ⊥
no_word text l d n [] rest e (lettered h) = h
no_word text l d n (b ∷ bs) rest e (lettered h) = l (subst (BytesBegin is_ascii_alphabetic) (sym e) h.0)
no_word text l d n [] rest e (digits h) = h
no_word text l d n (b ∷ bs) rest e (digits h) = d (subst (BytesBegin is_ascii_digit) (sym e) h.0)
no_word text l d n bytes rest e (sign s h) = n s rest (e ∙ ap (λ (xs : List ℕ). xs ++ rest) h)

pub sign_wrong : (text : List ℕ) (p : ℕ) → Starts text → (BytesBegin is_ascii_alphabetic text → ⊥) → (BytesBegin is_ascii_digit text → ⊥) → NoSign text → BeginsWrong text p (NoWord p)
sign_wrong [] p s l d n = s
sign_wrong (b ∷ bs) p s l d n = (refl, s, no_word (b ∷ bs) l d n)
