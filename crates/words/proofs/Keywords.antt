-- Keywords in either case of their letters. Assumes nothing.
use Rattle.std.proofs.Common.{◌≡◌, ℕ, ◌<◌, true, List, [], ◌∷◌, map, get_or, sym, refl, ap, ap₂, ◌∙◌, arith}
use Rattle.std.proofs.lemmas.Bool.Decides.{nat_tests}
use Rattle.std.specs.Char.{is_ascii_uppercase, to_ascii_lowercase, to_ascii_uppercase}
use Rattle.words.specs.declared.token.Keyword.{Keyword}
use Rattle.words.specs.declared.token.Keyword.TheVariants.{Module, Inputs, Outputs, Memory, Buses, Body, Sequence, EndSequence, ControlReset, Null, DeadEnd, End}
use Rattle.words.specs.Codes.{keyword_code}
use Rattle.words.specs.Spelling.{Every, keyword_text, capitals, NoKeyword}

all_capitals : (k : Keyword) → Every is_ascii_uppercase (keyword_text k)
all_capitals Module = (refl, (refl, (refl, (refl, (refl, (refl, tt))))))
all_capitals Inputs = (refl, (refl, (refl, (refl, (refl, (refl, tt))))))
all_capitals Outputs = (refl, (refl, (refl, (refl, (refl, (refl, (refl, tt)))))))
all_capitals Memory = (refl, (refl, (refl, (refl, (refl, (refl, tt))))))
all_capitals Buses = (refl, (refl, (refl, (refl, (refl, tt)))))
all_capitals Body = (refl, (refl, (refl, (refl, tt))))
all_capitals Sequence = (refl, (refl, (refl, (refl, (refl, (refl, (refl, (refl, tt))))))))
all_capitals EndSequence = (refl, (refl, (refl, (refl, (refl, (refl, (refl, (refl, (refl, (refl, (refl, tt)))))))))))
all_capitals ControlReset = (refl, (refl, (refl, (refl, (refl, (refl, (refl, (refl, (refl, (refl, (refl, (refl, tt))))))))))))
all_capitals Null = (refl, (refl, (refl, (refl, tt))))
all_capitals DeadEnd = (refl, (refl, (refl, (refl, (refl, (refl, (refl, tt)))))))
all_capitals End = (refl, (refl, (refl, tt)))

capital_byte : (b k : ℕ) → is_ascii_uppercase k ≡ true → to_ascii_lowercase b ≡ to_ascii_lowercase k → to_ascii_uppercase b ≡ k
capital_byte b k u e = grind (arith, nat_tests)

small_byte : (b k : ℕ) → is_ascii_uppercase k ≡ true → to_ascii_uppercase b ≡ k → to_ascii_lowercase b ≡ to_ascii_lowercase k
small_byte b k u e = grind (arith, nat_tests)

capital_bytes : (bs ks : List ℕ) → Every is_ascii_uppercase ks → map to_ascii_lowercase bs ≡ map to_ascii_lowercase ks → capitals bs ≡ ks
capital_bytes [] [] u e = refl
capital_bytes [] (k ∷ ks) u e = cc
capital_bytes (b ∷ bs) [] u e = cc
capital_bytes (b ∷ bs) (k ∷ ks) u e = ap₂ (λ (x : ℕ) (xs : List ℕ). x ∷ xs) (capital_byte b k u.0 (cc)) (capital_bytes bs ks u.1 (cc))

small_bytes : (bs ks : List ℕ) → Every is_ascii_uppercase ks → capitals bs ≡ ks → map to_ascii_lowercase bs ≡ map to_ascii_lowercase ks
small_bytes [] [] u e = refl
small_bytes [] (k ∷ ks) u e = cc
small_bytes (b ∷ bs) [] u e = cc
small_bytes (b ∷ bs) (k ∷ ks) u e = ap₂ (λ (x : ℕ) (xs : List ℕ). x ∷ xs) (small_byte b k u.0 (cc)) (small_bytes bs ks u.1 (cc))

-- alike in small letters is alike in capital letters
pub in_capitals : (bytes : List ℕ) (k : Keyword) → map to_ascii_lowercase bytes ≡ map to_ascii_lowercase (keyword_text k) → capitals bytes ≡ keyword_text k
in_capitals bytes k e = capital_bytes bytes (keyword_text k) (all_capitals k) e

pub in_small : (bytes : List ℕ) (k : Keyword) → capitals bytes ≡ keyword_text k → map to_ascii_lowercase bytes ≡ map to_ascii_lowercase (keyword_text k)
in_small bytes k e = small_bytes bytes (keyword_text k) (all_capitals k) e

abbrev all : List Keyword
all = Module ∷ Inputs ∷ Outputs ∷ Memory ∷ Buses ∷ Body ∷ Sequence ∷ EndSequence ∷ ControlReset ∷ Null ∷ DeadEnd ∷ End ∷ []

listed : (k : Keyword) → (keyword_code k < 12) × (get_or all (keyword_code k) Module ≡ k)
listed Module = (omega arith, refl)
listed Inputs = (omega arith, refl)
listed Outputs = (omega arith, refl)
listed Memory = (omega arith, refl)
listed Buses = (omega arith, refl)
listed Body = (omega arith, refl)
listed Sequence = (omega arith, refl)
listed EndSequence = (omega arith, refl)
listed ControlReset = (omega arith, refl)
listed Null = (omega arith, refl)
listed DeadEnd = (omega arith, refl)
listed End = (omega arith, refl)

-- bytes that are none of all keywords are no keyword
pub no_keyword : (bytes : List ℕ) → ((j : ℕ) → j < 12 → capitals bytes ≡ keyword_text (get_or all j Module) → ⊥) → NoKeyword bytes
no_keyword bytes h k e = let l = listed k in h (keyword_code k) l.0 (e ∙ sym (ap keyword_text l.1))
