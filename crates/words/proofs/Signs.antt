-- Signs at the front of a text. Assumes nothing.
use Rattle.std.proofs.Common.{◌≡◌, ℕ, ◌+◌, ◌<◌, ◌≤◌, Bool, true, false, cond, ◌==◌, ◌&&◌, List, [], ◌∷◌, ◌++◌, length, Some, None, Option, inl, inr, sym, refl, ap, ap₂, ◌∙◌, subst, T, eqb→eq, append_assoc, arith, length-append}
use Rattle.std.proofs.lemmas.Bool.{cases_lt}
use Rattle.words.specs.declared.token.Sign.{Sign}
use Rattle.words.specs.declared.token.Sign.TheVariants.{Dot, Colon, Semicolon, Comma, LeftParen, RightParen, LeftBracket, RightBracket, Slash, Backslash, Dollar, And, Or, Xor, Not, Star, Equal, Transfer, Branch, AndReduce, OrReduce, XorReduce}
use Rattle.words.specs.Spelling.{sign_text, OneWord, lettered, digits, sign, Longest}
use Rattle.words.specs.Inner.{NoSign, FirstSign}
use Rattle.words.proofs.SignTable.{long_sign, short_sign, followed, short_at, or_short, sign_at, sign_len}
use Rattle.words.proofs.Bytes.{lead, first, lead_sign, lead_lettered, lead_digits, sign_length}

is_true : {t : Bool} → t ≡ true → T t
is_true e = subst T (sym e) tt

both_true : (s t : Bool) → (s && t) ≡ true → (s ≡ true) × (t ≡ true)
both_true true t e = (refl, e)
both_true false t e = cc

two_bytes : (a b c d : ℕ) → (a == c && b == d) ≡ true → a ∷ b ∷ [] ≡ c ∷ d ∷ []
two_bytes a b c d e = let h = both_true (a == c) (b == d) e in ap₂ (λ (x y : ℕ). x ∷ y ∷ []) (eqb→eq a c (is_true h.0)) (eqb→eq b d (is_true h.1))

-- the sign is written with these bytes
abbrev Writes : List ℕ → Option Sign → Type 0
Writes bytes None = Unit {0}
Writes bytes (Some s) = bytes ≡ sign_text s

pick_short : (a : ℕ) (t : Bool) (s : Sign) (o : Option Sign) → (t ≡ true → a ∷ [] ≡ sign_text s) → Writes (a ∷ []) o → Writes (a ∷ []) (cond t (Some s) o)
pick_short a true s o h w = h refl
pick_short a false s o h w = w

pick_long : (a b : ℕ) (t : Bool) (s : Sign) (o : Option Sign) → (t ≡ true → a ∷ b ∷ [] ≡ sign_text s) → Writes (a ∷ b ∷ []) o → Writes (a ∷ b ∷ []) (cond t (Some s) o)
pick_long a b true s o h w = h refl
pick_long a b false s o h w = w

short_writes : (a : ℕ) → Writes (a ∷ []) (short_sign a)
short_writes a = pick_short a (a == 46) Dot _ (λ e. ap (λ (x : ℕ). x ∷ []) (eqb→eq a 46 (is_true e)))
    (pick_short a (a == 58) Colon _ (λ e. ap (λ (x : ℕ). x ∷ []) (eqb→eq a 58 (is_true e)))
    (pick_short a (a == 59) Semicolon _ (λ e. ap (λ (x : ℕ). x ∷ []) (eqb→eq a 59 (is_true e)))
    (pick_short a (a == 44) Comma _ (λ e. ap (λ (x : ℕ). x ∷ []) (eqb→eq a 44 (is_true e)))
    (pick_short a (a == 40) LeftParen _ (λ e. ap (λ (x : ℕ). x ∷ []) (eqb→eq a 40 (is_true e)))
    (pick_short a (a == 41) RightParen _ (λ e. ap (λ (x : ℕ). x ∷ []) (eqb→eq a 41 (is_true e)))
    (pick_short a (a == 91) LeftBracket _ (λ e. ap (λ (x : ℕ). x ∷ []) (eqb→eq a 91 (is_true e)))
    (pick_short a (a == 93) RightBracket _ (λ e. ap (λ (x : ℕ). x ∷ []) (eqb→eq a 93 (is_true e)))
    (pick_short a (a == 47) Slash _ (λ e. ap (λ (x : ℕ). x ∷ []) (eqb→eq a 47 (is_true e)))
    (pick_short a (a == 92) Backslash _ (λ e. ap (λ (x : ℕ). x ∷ []) (eqb→eq a 92 (is_true e)))
    (pick_short a (a == 36) Dollar _ (λ e. ap (λ (x : ℕ). x ∷ []) (eqb→eq a 36 (is_true e)))
    (pick_short a (a == 38) And _ (λ e. ap (λ (x : ℕ). x ∷ []) (eqb→eq a 38 (is_true e)))
    (pick_short a (a == 43) Or _ (λ e. ap (λ (x : ℕ). x ∷ []) (eqb→eq a 43 (is_true e)))
    (pick_short a (a == 64) Xor _ (λ e. ap (λ (x : ℕ). x ∷ []) (eqb→eq a 64 (is_true e)))
    (pick_short a (a == 94) Not _ (λ e. ap (λ (x : ℕ). x ∷ []) (eqb→eq a 94 (is_true e)))
    (pick_short a (a == 42) Star _ (λ e. ap (λ (x : ℕ). x ∷ []) (eqb→eq a 42 (is_true e)))
    (pick_short a (a == 61) Equal _ (λ e. ap (λ (x : ℕ). x ∷ []) (eqb→eq a 61 (is_true e)))
    (tt)))))))))))))))))

long_writes : (a b : ℕ) → Writes (a ∷ b ∷ []) (long_sign a b)
long_writes a b = pick_long a b (a == 60 && b == 61) Transfer _ (λ e. two_bytes a b 60 61 e)
    (pick_long a b (a == 61 && b == 62) Branch _ (λ e. two_bytes a b 61 62 e)
    (pick_long a b (a == 38 && b == 47) AndReduce _ (λ e. two_bytes a b 38 47 e)
    (pick_long a b (a == 43 && b == 47) OrReduce _ (λ e. two_bytes a b 43 47 e)
    (pick_long a b (a == 64 && b == 47) XorReduce _ (λ e. two_bytes a b 64 47 e)
    (tt)))))

-- the text begins with the sign
abbrev Begun : List ℕ → Option (Sign × List ℕ) → Type 0
Begun text None = Unit {0}
Begun text (Some x) = text ≡ sign_text x.0 ++ x.1

begun_followed : (bytes rest : List ℕ) (o : Option Sign) → Writes bytes o → Begun (bytes ++ rest) (followed o rest)
begun_followed bytes rest None w = tt
begun_followed bytes rest (Some s) w = ap (λ (bs : List ℕ). bs ++ rest) w

begun_or : (text : List ℕ) (o : Option (Sign × List ℕ)) → Begun text o → Begun text (short_at text) → Begun text (or_short o text)
begun_or text None h k = k
begun_or text (Some x) h k = h

begun : (text : List ℕ) → Begun text (sign_at text)
begun [] = tt
begun (a ∷ []) = begun_followed (a ∷ []) [] (short_sign a) (short_writes a)
begun (a ∷ b ∷ rest) = begun_or (a ∷ b ∷ rest) (followed (long_sign a b) rest) (begun_followed (a ∷ b ∷ []) rest (long_sign a b) (long_writes a b)) (begun_followed (a ∷ []) (b ∷ rest) (short_sign a) (short_writes a))

sign_begins : (text : List ℕ) (s : Sign) (rest : List ℕ) → Some (s, rest) ≡ sign_at text → text ≡ sign_text s ++ rest
sign_begins text s rest e = subst (Begun text) (sym e) (begun text)

-- a sign of two bytes is found where it stands
long_found : (s : Sign) (rest : List ℕ) → 2 ≤ length (sign_text s) → sign_at (sign_text s ++ rest) ≡ Some (s, rest)
long_found Dot rest l = absurd (omega arith)
long_found Colon rest l = absurd (omega arith)
long_found Semicolon rest l = absurd (omega arith)
long_found Comma rest l = absurd (omega arith)
long_found LeftParen rest l = absurd (omega arith)
long_found RightParen rest l = absurd (omega arith)
long_found LeftBracket rest l = absurd (omega arith)
long_found RightBracket rest l = absurd (omega arith)
long_found Slash rest l = absurd (omega arith)
long_found Backslash rest l = absurd (omega arith)
long_found Dollar rest l = absurd (omega arith)
long_found And rest l = absurd (omega arith)
long_found Or rest l = absurd (omega arith)
long_found Xor rest l = absurd (omega arith)
long_found Not rest l = absurd (omega arith)
long_found Star rest l = absurd (omega arith)
long_found Equal rest l = absurd (omega arith)
long_found Transfer rest l = refl
long_found Branch rest l = refl
long_found AndReduce rest l = refl
long_found OrReduce rest l = refl
long_found XorReduce rest l = refl

none_followed : (o : Option Sign) (rest : List ℕ) → followed o rest ≡ None → o ≡ None
none_followed None rest e = refl
none_followed (Some s) rest e = cc

none_or : (o : Option (Sign × List ℕ)) (text : List ℕ) → or_short o text ≡ None → short_at text ≡ None
none_or None text e = e
none_or (Some x) text e = cc

none_short : (a : ℕ) (rest : List ℕ) → sign_at (a ∷ rest) ≡ None → short_sign a ≡ None
none_short a [] e = none_followed (short_sign a) [] e
none_short a (b ∷ rest) e = none_followed (short_sign a) (b ∷ rest) (none_or (followed (long_sign a b) rest) (a ∷ b ∷ rest) e)

-- where no sign is found, none stands
missed : (s : Sign) (rest : List ℕ) → sign_at (sign_text s ++ rest) ≡ None → ⊥
missed Dot rest e = let z = none_short 46 rest e in cc
missed Colon rest e = let z = none_short 58 rest e in cc
missed Semicolon rest e = let z = none_short 59 rest e in cc
missed Comma rest e = let z = none_short 44 rest e in cc
missed LeftParen rest e = let z = none_short 40 rest e in cc
missed RightParen rest e = let z = none_short 41 rest e in cc
missed LeftBracket rest e = let z = none_short 91 rest e in cc
missed RightBracket rest e = let z = none_short 93 rest e in cc
missed Slash rest e = let z = none_short 47 rest e in cc
missed Backslash rest e = let z = none_short 92 rest e in cc
missed Dollar rest e = let z = none_short 36 rest e in cc
missed And rest e = let z = none_short 38 rest e in cc
missed Or rest e = let z = none_short 43 rest e in cc
missed Xor rest e = let z = none_short 64 rest e in cc
missed Not rest e = let z = none_short 94 rest e in cc
missed Star rest e = let z = none_short 42 rest e in cc
missed Equal rest e = let z = none_short 61 rest e in cc
missed Transfer rest e = cc
missed Branch rest e = cc
missed AndReduce rest e = cc
missed OrReduce rest e = cc
missed XorReduce rest e = cc

pub no_sign : (text : List ℕ) → None ≡ sign_at text → NoSign text
no_sign text e s rest f = missed s rest (ap sign_at (sym f) ∙ sym e)

-- the sign that is found is the longest
first_sign : (s : Sign) (more : List ℕ) → first (sign_text s ++ more) ≡ first (sign_text s)
first_sign Dot more = refl
first_sign Colon more = refl
first_sign Semicolon more = refl
first_sign Comma more = refl
first_sign LeftParen more = refl
first_sign RightParen more = refl
first_sign LeftBracket more = refl
first_sign RightBracket more = refl
first_sign Slash more = refl
first_sign Backslash more = refl
first_sign Dollar more = refl
first_sign And more = refl
first_sign Or more = refl
first_sign Xor more = refl
first_sign Not more = refl
first_sign Star more = refl
first_sign Equal more = refl
first_sign Transfer more = refl
first_sign Branch more = refl
first_sign AndReduce more = refl
first_sign OrReduce more = refl
first_sign XorReduce more = refl

-- no sign that stands there is longer
as_long : (t : Sign) (more : List ℕ) (o : Option (Sign × List ℕ)) → o ≡ sign_at (sign_text t ++ more) → length (sign_text t) ≤ sign_len o
as_long t more None e = absurd (missed t more (sym e))
as_long t more (Some x) e = elim (cases_lt 1 (length (sign_text t))) [
  | inl l ↦ omega (arith, ap sign_len (e ∙ long_found t more l))
  | inr l ↦ let n = (sign_length x.0).1 in omega arith
]

pub no_longer : (text : List ℕ) (t : Sign) (more : List ℕ) → text ≡ sign_text t ++ more → sign_len (sign_at text) < length (sign_text t) → ⊥
no_longer text t more e l =
    let h = as_long t more (sign_at text) (ap sign_at e) in omega arith

pub first_found : (text : List ℕ) (s : Sign) (rest : List ℕ) → Some (s, rest) ≡ sign_at text → FirstSign text s rest
first_found text s rest e = (sign_begins text s rest e, λ t more f. let h = as_long t more (Some (s, rest)) (e ∙ ap sign_at f) in h)

longer_sign : (text : List ℕ) (s t : Sign) (rest : List ℕ) (b : ℕ) (more others : List ℕ) → FirstSign text s rest → rest ≡ b ∷ (more ++ others) → sign_text s ++ b ∷ more ≡ sign_text t → ⊥
longer_sign text s t rest b more others x f g =
    let l : length (sign_text s) + length (b ∷ more) ≡ length (sign_text t) = sym (length-append (sign_text s) (b ∷ more)) ∙ ap (length {A = ℕ}) g in
    let whole : text ≡ sign_text t ++ others = x.0 ∙ ap (λ (xs : List ℕ). sign_text s ++ xs) f ∙ sym (append_assoc (sign_text s) (b ∷ more) others) ∙ ap (λ (xs : List ℕ). xs ++ others) g in
    let h = x.1 t others whole in omega arith

longer_word : (text : List ℕ) (s : Sign) (rest : List ℕ) (b : ℕ) (more others : List ℕ) → FirstSign text s rest → rest ≡ b ∷ (more ++ others) → OneWord (sign_text s ++ b ∷ more) → ⊥
longer_word text s rest b more others x f (lettered l) = let x = lead_lettered (sign_text s ++ b ∷ more) l in let y = ap lead (first_sign s (b ∷ more)) ∙ lead_sign s in omega arith
longer_word text s rest b more others x f (digits d) = let x = lead_digits (sign_text s ++ b ∷ more) d in let y = ap lead (first_sign s (b ∷ more)) ∙ lead_sign s in omega arith
longer_word text s rest b more others x f (sign t g) = longer_sign text s t rest b more others x f g

pub sign_longest : (text : List ℕ) (s : Sign) (rest : List ℕ) → FirstSign text s rest → Longest (sign_text s) rest
sign_longest text s rest x = record {
  one = sign s refl;
  no_longer = λ b more others f o. longer_word text s rest b more others x f o;
}
