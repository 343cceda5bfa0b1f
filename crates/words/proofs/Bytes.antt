-- Bytes of words: with what a word begins, and which sign or keyword it is. Assumes nothing.
use Rattle.std.proofs.Common.{◌≡◌, ℕ, ◌+◌, ◌*◌, ◌<◌, ◌≤◌, Bool, true, false, cond, ◌==◌, List, [], ◌∷◌, ◌++◌, length, get_or, Some, None, Option, sym, refl, ap, ◌∙◌, true≢false, arith}
use Rattle.std.proofs.lemmas.Bool.Decides.{nat_tests}
use Rattle.std.specs.Char.{is_ascii_alphabetic, is_ascii_digit, to_ascii_uppercase}
use Rattle.words.specs.declared.token.Sign.{Sign}
use Rattle.words.specs.declared.token.Sign.TheVariants.{Dot, Colon, Semicolon, Comma, LeftParen, RightParen, LeftBracket, RightBracket, Slash, Backslash, Dollar, And, Or, Xor, Not, Star, Equal, Transfer, Branch, AndReduce, OrReduce, XorReduce}
use Rattle.words.specs.declared.token.Keyword.{Keyword}
use Rattle.words.specs.declared.token.Keyword.TheVariants.{Module, Inputs, Outputs, Memory, Buses, Body, Sequence, EndSequence, ControlReset, Null, DeadEnd, End}
use Rattle.words.specs.Spelling.{is_separator, Every, Separators, sign_text, keyword_text, capitals, in_name, Lettered, Digits, OneWord, lettered, digits, sign}
use Rattle.words.proofs.SignTable.{sign_at}
use Rattle.words.specs.Inner.{Starts}

-- letters, digits and separators are different bytes
pub letter_no_digit : (b : ℕ) → is_ascii_alphabetic b ≡ true → is_ascii_digit b ≡ false
letter_no_digit b e = grind (arith, nat_tests)

pub letter_no_separator : (b : ℕ) → is_ascii_alphabetic b ≡ true → is_separator b ≡ false
letter_no_separator b e = grind (arith, nat_tests)

pub digit_no_separator : (b : ℕ) → is_ascii_digit b ≡ true → is_separator b ≡ false
digit_no_separator b e = grind (arith, nat_tests)

pub digit_no_letter : (b : ℕ) → is_ascii_digit b ≡ true → is_ascii_alphabetic b ≡ false
digit_no_letter b e = grind (arith, nat_tests)

pub letter_in_name : (b : ℕ) → is_ascii_alphabetic b ≡ true → in_name b ≡ true
letter_in_name b e = grind (arith, nat_tests)

pub upper_letter : (b : ℕ) → is_ascii_alphabetic (to_ascii_uppercase b) ≡ true → is_ascii_alphabetic b ≡ true
upper_letter b e = grind (arith, nat_tests)

-- the first byte
abbrev pub first : List ℕ → ℕ
first [] = 0
first (b ∷ bs) = b

-- 0: a letter, 1: a digit, 2: no separator; 3 otherwise
abbrev pub lead : ℕ → ℕ
lead b = cond (is_ascii_alphabetic b) 0 (cond (is_ascii_digit b) 1 (cond (is_separator b) 3 2))

pub lead_letter : (b : ℕ) → is_ascii_alphabetic b ≡ true → lead b ≡ 0
lead_letter b e = ap (λ t. cond t 0 (cond (is_ascii_digit b) 1 (cond (is_separator b) 3 2))) e

pub lead_digit : (b : ℕ) → is_ascii_digit b ≡ true → lead b ≡ 1
lead_digit b e = ap (λ t. cond t 0 (cond (is_ascii_digit b) 1 (cond (is_separator b) 3 2))) (digit_no_letter b e) ∙ ap (λ t. cond t 1 (cond (is_separator b) 3 2)) e

pub lead_word : (b : ℕ) → lead b < 3 → is_separator b ≡ false
lead_word b h = grind (arith, nat_tests)

-- how signs and keywords begin
pub lead_sign : (s : Sign) → lead (first (sign_text s)) ≡ 2
lead_sign Dot = refl
lead_sign Colon = refl
lead_sign Semicolon = refl
lead_sign Comma = refl
lead_sign LeftParen = refl
lead_sign RightParen = refl
lead_sign LeftBracket = refl
lead_sign RightBracket = refl
lead_sign Slash = refl
lead_sign Backslash = refl
lead_sign Dollar = refl
lead_sign And = refl
lead_sign Or = refl
lead_sign Xor = refl
lead_sign Not = refl
lead_sign Star = refl
lead_sign Equal = refl
lead_sign Transfer = refl
lead_sign Branch = refl
lead_sign AndReduce = refl
lead_sign OrReduce = refl
lead_sign XorReduce = refl

pub lead_keyword : (k : Keyword) → is_ascii_alphabetic (first (keyword_text k)) ≡ true
lead_keyword Module = refl
lead_keyword Inputs = refl
lead_keyword Outputs = refl
lead_keyword Memory = refl
lead_keyword Buses = refl
lead_keyword Body = refl
lead_keyword Sequence = refl
lead_keyword EndSequence = refl
lead_keyword ControlReset = refl
lead_keyword Null = refl
lead_keyword DeadEnd = refl
lead_keyword End = refl

pub keyword_length : (k : Keyword) → length (keyword_text k) ≤ 12
keyword_length Module = omega arith
keyword_length Inputs = omega arith
keyword_length Outputs = omega arith
keyword_length Memory = omega arith
keyword_length Buses = omega arith
keyword_length Body = omega arith
keyword_length Sequence = omega arith
keyword_length EndSequence = omega arith
keyword_length ControlReset = omega arith
keyword_length Null = omega arith
keyword_length DeadEnd = omega arith
keyword_length End = omega arith

pub sign_length : (s : Sign) → (length (sign_text s) ≤ 2) × (1 ≤ length (sign_text s))
sign_length Dot = (omega arith, omega arith)
sign_length Colon = (omega arith, omega arith)
sign_length Semicolon = (omega arith, omega arith)
sign_length Comma = (omega arith, omega arith)
sign_length LeftParen = (omega arith, omega arith)
sign_length RightParen = (omega arith, omega arith)
sign_length LeftBracket = (omega arith, omega arith)
sign_length RightBracket = (omega arith, omega arith)
sign_length Slash = (omega arith, omega arith)
sign_length Backslash = (omega arith, omega arith)
sign_length Dollar = (omega arith, omega arith)
sign_length And = (omega arith, omega arith)
sign_length Or = (omega arith, omega arith)
sign_length Xor = (omega arith, omega arith)
sign_length Not = (omega arith, omega arith)
sign_length Star = (omega arith, omega arith)
sign_length Equal = (omega arith, omega arith)
sign_length Transfer = (omega arith, omega arith)
sign_length Branch = (omega arith, omega arith)
sign_length AndReduce = (omega arith, omega arith)
sign_length OrReduce = (omega arith, omega arith)
sign_length XorReduce = (omega arith, omega arith)

-- a sign is known by its bytes
sign_back : (s : Sign) → sign_at (sign_text s) ≡ Some (s, [])
sign_back Dot = refl
sign_back Colon = refl
sign_back Semicolon = refl
sign_back Comma = refl
sign_back LeftParen = refl
sign_back RightParen = refl
sign_back LeftBracket = refl
sign_back RightBracket = refl
sign_back Slash = refl
sign_back Backslash = refl
sign_back Dollar = refl
sign_back And = refl
sign_back Or = refl
sign_back Xor = refl
sign_back Not = refl
sign_back Star = refl
sign_back Equal = refl
sign_back Transfer = refl
sign_back Branch = refl
sign_back AndReduce = refl
sign_back OrReduce = refl
sign_back XorReduce = refl

abbrev pub sign_or : Option (Sign × List ℕ) → Sign
sign_or None = Dot
sign_or (Some x) = x.0

pub one_sign : (s t : Sign) → sign_text s ≡ sign_text t → s ≡ t
one_sign s t e = ap sign_or (sym (sign_back s) ∙ ap sign_at e ∙ sign_back t)

-- a keyword is known by its length and its first two bytes
abbrev pub key : List ℕ → ℕ
key bs = length bs + 1000 * (get_or bs 0 0 + 1000 * get_or bs 1 0)

abbrev pub keyword_of : ℕ → Keyword
keyword_of n = cond (n == 79077006) Module
    (cond (n == 78073006) Inputs
    (cond (n == 85079007) Outputs
    (cond (n == 69077006) Memory
    (cond (n == 85066005) Buses
    (cond (n == 79066004) Body
    (cond (n == 69083008) Sequence
    (cond (n == 78069011) EndSequence
    (cond (n == 79067012) ControlReset
    (cond (n == 85078004) Null
    (cond (n == 69068007) DeadEnd
    (End)))))))))))

pub keyword_back : (k : Keyword) → keyword_of (key (keyword_text k)) ≡ k
keyword_back Module = refl
keyword_back Inputs = refl
keyword_back Outputs = refl
keyword_back Memory = refl
keyword_back Buses = refl
keyword_back Body = refl
keyword_back Sequence = refl
keyword_back EndSequence = refl
keyword_back ControlReset = refl
keyword_back Null = refl
keyword_back DeadEnd = refl
keyword_back End = refl

pub one_keyword : (k l : Keyword) → keyword_text k ≡ keyword_text l → k ≡ l
one_keyword k l e = sym (keyword_back k) ∙ ap (λ bs. keyword_of (key bs)) e ∙ keyword_back l

-- how words begin
pub lead_lettered : (bytes : List ℕ) → Lettered bytes → lead (first bytes) ≡ 0
lead_lettered [] l = absurd l
lead_lettered (b ∷ bs) l = lead_letter b l.0

pub lead_digits : (bytes : List ℕ) → Digits bytes → lead (first bytes) ≡ 1
lead_digits [] d = absurd d
lead_digits (b ∷ bs) d = lead_digit b d.0

pub lead_reserved : (bytes : List ℕ) (k : Keyword) → capitals bytes ≡ keyword_text k → lead (first bytes) ≡ 0
lead_reserved [] k e = absurd (true≢false (sym (ap (λ bs. is_ascii_alphabetic (first bs)) e ∙ lead_keyword k)))
lead_reserved (b ∷ bs) k e = lead_letter b (upper_letter b (ap (λ bs. is_ascii_alphabetic (first bs)) e ∙ lead_keyword k))

pub lead_mark : (bytes : List ℕ) (s : Sign) → bytes ≡ sign_text s → lead (first bytes) ≡ 2
lead_mark bytes s e = ap (λ bs. lead (first bs)) e ∙ lead_sign s

-- the first byte of a word is no separator
some_byte : (bytes : List ℕ) → 1 ≤ length bytes → lead (first bytes) < 3 → Starts bytes
some_byte [] l h = absurd (omega arith)
some_byte (b ∷ bs) l h = lead_word b h

pub word_starts : (bytes : List ℕ) → OneWord bytes → Starts bytes
word_starts [] (lettered l) = absurd l
word_starts (b ∷ bs) (lettered l) = letter_no_separator b l.0
word_starts [] (digits d) = absurd d
word_starts (b ∷ bs) (digits d) = digit_no_separator b d.0
word_starts bytes (sign s e) = let l = lead_mark bytes s e in let n = (sign_length s).1 in some_byte bytes (omega (arith, ap (length {A = ℕ}) e)) (omega arith)

pub starts_append : (a b : List ℕ) → Starts a → Starts (a ++ b)
starts_append [] b s = absurd s
starts_append (c ∷ a) b s = s

-- what each byte passes
pub every_left : (test : ℕ → Bool) (a b : List ℕ) → Every test (a ++ b) → Every test a
every_left test [] b h = tt
every_left test (c ∷ a) b h = (h.0, every_left test a b h.1)

pub every_right : (test : ℕ → Bool) (a b : List ℕ) → Every test (a ++ b) → Every test b
every_right test [] b h = h
every_right test (c ∷ a) b h = every_right test a b h.1

pub every_append : (test : ℕ → Bool) (a b : List ℕ) → Every test a → Every test b → Every test (a ++ b)
every_append test [] b h k = k
every_append test (c ∷ a) b h k = (h.0, every_append test a b h.1 k)

pub blank_starts : (x : List ℕ) → Separators x → Starts x → ⊥
blank_starts [] h s = s
blank_starts (b ∷ bs) h s = true≢false (sym h.0 ∙ s)
