-- Tests of a rule that are computed: that its next word (at a fork its next two) tells how to read on. Assumes nothing.
use Rattle.std.proofs.Common.{◌≡◌, ℕ, ◌<◌, Bool, true, false, not, ◌&&◌, ◌||◌, eqb, List, [], ◌∷◌, get_or, sym, subst, rules, arith}
use Rattle.std.proofs.lemmas.Bool.{agree_below, agree_below_at, and_parts, not-true, eqb-true, ne_eqb}
use Rattle.words.specs.Codes.{sign_code, keyword_code}
use Rattle.words.specs.declared.token.Sign.{Sign}
use Rattle.words.specs.declared.token.Sign.TheVariants.{Dot, Colon, Semicolon, Comma, LeftParen, RightParen, LeftBracket, RightBracket, Slash, Backslash, Dollar, And, Or, Xor, Not, Star, Equal, Transfer, Branch, AndReduce, OrReduce, XorReduce}
use Rattle.words.specs.declared.token.Keyword.{Keyword}
use Rattle.words.specs.declared.token.Keyword.TheVariants.{Module, Inputs, Outputs, Memory, Buses, Body, Sequence, EndSequence, ControlReset, Null, DeadEnd, End}
use Rattle.words.specs.declared.token.Kind.{Kind}
use Rattle.words.specs.declared.token.Kind.TheVariants.{Reserved, Mark}
use Rattle.words.specs.declared.token.Token.{Token}
use Rattle.grammar.specs.Rules.{Part, group, signed, Rule, ◌then◌, maybe, many, either, fork, series, part, inside}
use Rattle.grammar.specs.Promise.{IsOpening}
use Rattle.grammar.specs.Reading.{IsWord}
use Rattle.grammar.specs.Sorts.{integer_sort, keyword_sort, sign_sort, end_sort, kind_sort, sort, nullable, starts, opens}

-- the sorts that may continue a nesting part that is complete
abbrev pub closes : Part → ℕ → Bool
closes group n = false
closes signed n = eqb n (sign_sort LeftBracket)

-- the sorts that, behind something complete under the rule, may still belong to it
abbrev pub continues : Rule → ℕ → Bool
continues (a then b) n = continues b n || (nullable b && continues a n)
continues (maybe a) n = starts a n || continues a n
continues (many a) n = starts a n || continues a n
continues (either a b) n = continues a n || continues b n
continues (fork a b) n = continues a n || continues b n
continues (series a s b) n = eqb n (sign_sort s) || (continues a n || continues b n)
continues (part p) n = closes p n
continues _ n = false

-- the sorts of the words that are something under the rule by themselves
abbrev pub single : Rule → ℕ → Bool
single (a then b) n = (single a n && nullable b) || (nullable a && single b n)
single (maybe a) n = single a n
single (many a) n = single a n
single (either a b) n = single a n || single b n
single (fork a b) n = single a n || single b n
single (series a s b) n = single a n || single b n
single r n = starts r n

-- the sorts with which something of two words or more may begin
abbrev pub pairs : Rule → ℕ → ℕ → Bool
pairs (a then b) n m = pairs a n m || ((single a n && starts b m) || (nullable a && pairs b n m))
pairs (maybe a) n m = pairs a n m
pairs (many a) n m = pairs a n m || (single a n && starts a m)
pairs (either a b) n m = pairs a n m || pairs b n m
pairs (fork a b) n m = pairs a n m || pairs b n m
pairs (series a s b) n m = pairs a n m || (pairs b n m || (single a n && eqb m (sign_sort s)))
pairs (part p) n m = opens p n
pairs _ n m = false

-- something under the rule does not nest
abbrev pub shallow : Rule → Bool
shallow (a then b) = shallow a && shallow b
shallow (either a b) = shallow a || shallow b
shallow (fork a b) = shallow a || shallow b
shallow (series a s b) = shallow a || shallow b
shallow (part p) = false
shallow _ = true

-- something under the rule that does not nest begins with a word of that sort
abbrev pub begins : Rule → ℕ → Bool
begins (a then b) n = begins a n && shallow b
begins (maybe a) n = begins a n
begins (many a) n = begins a n
begins (either a b) n = begins a n || begins b n
begins (fork a b) n = begins a n || begins b n
begins (series a s b) n = begins a n || begins b n
begins (part p) n = false
begins r n = starts r n

-- at each sort
abbrev pub disjoint : (ℕ → Bool) → (ℕ → Bool) → Bool
disjoint p q = agree_below (λ n. p n && q n) (λ n. false) 37

abbrev pub implies : (ℕ → Bool) → (ℕ → Bool) → Bool
implies p q = agree_below (λ n. p n && q n) p 37

-- The next word tells how to read on. At a fork the next two do: a begins with an integer and no $ behind it, b with an
-- integer only before a $; both may begin with an integer, so that reading either passes it.
abbrev pub ok : Rule → Bool
ok (a then b) = ok a && (ok b && (disjoint (continues a) (starts b) && shallow b))
ok (maybe a) = ok a && not (nullable a)
ok (many a) = ok a && (not (nullable a) && (not (starts a end_sort) && disjoint (continues a) (starts a)))
ok (either a b) = ok a && (ok b && (not (nullable a) && (not (nullable b) && disjoint (starts a) (starts b))))
ok (fork a b) =
    ok a && (ok b && (not (nullable a) && (not (nullable b) && (implies (starts a) (λ n. eqb n integer_sort) &&
    (not (single a integer_sort) && (not (pairs a integer_sort (sign_sort Dollar)) &&
    (not (single b integer_sort) && (implies (pairs b integer_sort) (λ n. eqb n (sign_sort Dollar)) &&
    (begins a integer_sort && (begins b integer_sort && (not (continues a end_sort) && not (continues b end_sort))))))))))))
ok (series a s b) = ok a && (ok b && (not (nullable a) && (not (nullable b) && (disjoint (starts a) (starts b) && (not (continues a (sign_sort s)) && shallow (series a s b))))))
ok _ = true

-- no p is a q
abbrev pub Apart : (ℕ → Bool) → (ℕ → Bool) → Type 0
Apart p q = (ws : List Token) → q (sort ws) ≡ true → p (sort ws) ≡ false

-- every p is a q
abbrev pub Implies : (ℕ → Bool) → (ℕ → Bool) → Type 0
Implies p q = (ws : List Token) → p (sort ws) ≡ true → q (sort ws) ≡ true

-- what `ok` tests
abbrev pub Ok : Rule → Type 0
Ok (a then b) = Ok a × (Ok b × (Apart (continues a) (starts b) × (shallow b ≡ true)))
Ok (maybe a) = Ok a × (nullable a ≡ false)
Ok (many a) = Ok a × ((nullable a ≡ false) × ((starts a end_sort ≡ false) × Apart (continues a) (starts a)))
Ok (either a b) = Ok a × (Ok b × ((nullable a ≡ false) × ((nullable b ≡ false) × Apart (starts a) (starts b))))
Ok (fork a b) =
    Ok a × (Ok b × ((nullable a ≡ false) × ((nullable b ≡ false) × (Implies (starts a) (λ n. eqb n integer_sort) ×
    ((single a integer_sort ≡ false) × ((pairs a integer_sort (sign_sort Dollar) ≡ false) ×
    ((single b integer_sort ≡ false) × (Implies (pairs b integer_sort) (λ n. eqb n (sign_sort Dollar)) ×
    ((begins a integer_sort ≡ true) × ((begins b integer_sort ≡ true) × ((continues a end_sort ≡ false) × (continues b end_sort ≡ false))))))))))))
Ok (series a s b) = Ok a × (Ok b × ((nullable a ≡ false) × ((nullable b ≡ false) × (Apart (starts a) (starts b) × ((continues a (sign_sort s) ≡ false) × (shallow (series a s b) ≡ true))))))
Ok _ = Unit

-- the signs and the capital words by their codes
abbrev signs : List Sign
signs = Dot ∷ Colon ∷ Semicolon ∷ Comma ∷ LeftParen ∷ RightParen ∷ LeftBracket ∷ RightBracket ∷ Slash ∷ Backslash ∷ Dollar ∷ And ∷ Or ∷ Xor ∷ Not ∷ Star ∷ Equal ∷ Transfer ∷ Branch ∷ AndReduce ∷ OrReduce ∷ XorReduce ∷ []

abbrev keywords : List Keyword
keywords = Module ∷ Inputs ∷ Outputs ∷ Memory ∷ Buses ∷ Body ∷ Sequence ∷ EndSequence ∷ ControlReset ∷ Null ∷ DeadEnd ∷ End ∷ []

-- the code tells the sign, and the keyword
sign_known : (s : Sign) → (sign_code s < 22) × (get_or signs (sign_code s) Dot ≡ s)
sign_known s = grind arith

keyword_known : (k : Keyword) → (keyword_code k < 12) × (get_or keywords (keyword_code k) End ≡ k)
keyword_known k = grind arith

-- a word of that sort is that sign, that keyword
pub is_mark : (s : Sign) (k : Kind) → kind_sort k ≡ sign_sort s → k ≡ Mark s
is_mark s k e = grind (arith, sign_known, keyword_known)

pub is_keyword : (c : Keyword) (k : Kind) → kind_sort k ≡ keyword_sort c → k ≡ Reserved c
is_keyword c k e = grind (arith, sign_known, keyword_known)

-- a single word passes, is never empty, and does not stand at the end of the text
pub word_ok : (r : Rule) → IsWord r → Ok r
word_ok r w = grind arith

pub word_not_nullable : (r : Rule) → IsWord r → nullable r ≡ false
word_not_nullable r w = grind arith

pub word_no_end : (r : Rule) → IsWord r → starts r end_sort ≡ false
word_no_end r w = grind (arith, ne_eqb, sign_known, keyword_known)

sort_below : (ws : List Token) → sort ws < 37
sort_below ws = grind (arith, sign_known, keyword_known)

apart : (p q : ℕ → Bool) → disjoint p q ≡ true → Apart p q
apart p q e ws h = let x = agree_below_at (λ n. p n && q n) (λ n. false) 37 (sort ws) e (sort_below ws) in grind arith

pub each : (p q : ℕ → Bool) → implies p q ≡ true → Implies p q
each p q e ws h = let x = agree_below_at (λ n. p n && q n) p 37 (sort ws) e (sort_below ws) in grind arith

-- what the two parts of a test tell
infixr 20 ◌also◌
◌also◌ : {A B : Type 0} {x y : Bool} → (x ≡ true → A) → (y ≡ true → B) → (x && y) ≡ true → A × B
◌also◌ {x = x} {y = y} f g e = let h = and_parts x y e in (f h.0, g h.1)

-- a rule that passes the tests, which are computed
pub ok_sound : (r : Rule) → ok r ≡ true → Ok r
ok_sound (a then b) e = (ok_sound a also ok_sound b also apart (continues a) (starts b) also (λ x. x)) e
ok_sound (maybe a) e = (ok_sound a also not-true _) e
ok_sound (many a) e = (ok_sound a also not-true _ also not-true _ also apart (continues a) (starts a)) e
ok_sound (either a b) e = (ok_sound a also ok_sound b also not-true _ also not-true _ also apart (starts a) (starts b)) e
ok_sound (fork a b) e =
    (ok_sound a also ok_sound b also not-true _ also not-true _ also each (starts a) (λ n. eqb n integer_sort) also not-true _ also not-true _ also not-true _ also
    each (pairs b integer_sort) (λ n. eqb n (sign_sort Dollar)) also (λ x. x) also (λ x. x) also not-true _ also not-true _) e
ok_sound (series a s b) e = (ok_sound a also ok_sound b also not-true _ also not-true _ also apart (starts a) (starts b) also not-true _ also (λ x. x)) e
ok_sound _ e = tt

pub ok_inside : (p : Part) → Ok (inside p)
ok_inside p = grind (arith, ok_sound)

pub inside_opens : (p : Part) → Implies (starts (inside p)) (opens p)
inside_opens p = grind (arith, each)

-- a nesting part begins with a sign that opens a nesting
pub opens_by : (p : Part) (k : Kind) → opens p (kind_sort k) ≡ true → IsOpening k
opens_by group k e = subst IsOpening (sym (is_mark LeftParen k (eqb-true _ _ e))) tt
opens_by signed k e = grind (arith, eqb-true, is_mark Not k, is_mark AndReduce k, is_mark OrReduce k, is_mark XorReduce k)

pub inside_begins : (p : Part) → Implies (opens p) (begins (inside p))
inside_begins p = grind (arith, each)

pub inside_closes : (p : Part) → Apart (continues (inside p)) (λ n. not (closes p n))
inside_closes p = grind (arith, apart)

pub inside_none : (p : Part) → nullable (inside p) ≡ false
inside_none p = search rules

pub opens_no_end : (p : Part) → opens p end_sort ≡ false
opens_no_end p = search rules
