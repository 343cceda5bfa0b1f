-- The words of a text as they are computed, for texts that are written out. Assumes nothing.
use Rattle.std.proofs.Common.{◌≡◌, ℕ, zero, suc, ◌+◌, ◌-◌, Bool, true, false, cond, ◌&&◌, nat_le, List, [], ◌∷◌, ◌++◌, length, take, drop, Option, Some, None, sym, refl, ap, ◌∙◌, subst, true≢false, bytes_eq, take-append-drop, arith}
use Rattle.std.specs.List.{prefix_len}
use Rattle.std.specs.Char.{is_ascii_alphabetic, is_ascii_digit}
use Rattle.std.specs.Prelude.{option_map}
use Rattle.std.proofs.lemmas.Bool.Decides.{nat_tests}
use Rattle.std.proofs.lemmas.Slice.Eq.{bytes_eq-Decides}
use Rattle.words.specs.declared.token.Sign.{Sign}
use Rattle.words.specs.declared.token.Keyword.{Keyword}
use Rattle.words.specs.declared.token.Kind.{Kind}
use Rattle.words.specs.declared.token.Kind.TheVariants.{Reserved, Name, Integer, Mark}
use Rattle.words.specs.declared.token.Token.{Token}
use Rattle.words.specs.Spelling.{is_separator, in_name, Separators, keyword_text, capitals, NoKeyword, longest_name, most_digits, largest_integer, decimal_value, FirstWord, BeginsWith, Spelled}
use Rattle.words.proofs.SignTable.{sign_at}
use Rattle.words.specs.Inner.{BytesBegin, Gap, RightWord}
use Rattle.words.proofs.Bytes.{key, keyword_of, keyword_back}
use Rattle.words.proofs.Signs.{first_found}
use Rattle.words.proofs.Fronts.{name_bytes, name_right, integer_right, sign_right}
use Rattle.words.proofs.Reading.{gap_parts, reads_end}
use Rattle.std.proofs.lemmas.List.{length-take-le}

abbrev keyword_at : List ℕ → Keyword
keyword_at bs = keyword_of (key (capitals bs))

-- a word of letters is a keyword or a name
abbrev lettered_by : Bool → List ℕ → Kind
lettered_by true bs = Reserved (keyword_at bs)
lettered_by false bs = Name (length bs)

abbrev is_keyword : List ℕ → Bool
is_keyword bs = bytes_eq (capitals bs) (keyword_text (keyword_at bs))

abbrev lettered : List ℕ → Kind
lettered bs = lettered_by (is_keyword bs) bs

abbrev name_len : List ℕ → ℕ
name_len text = prefix_len in_name text

abbrev digits_len : List ℕ → ℕ
digits_len text = prefix_len is_ascii_digit text

abbrev signed : List ℕ → Option (Sign × List ℕ) → Option (Kind × ℕ)
signed text None = None
signed text (Some x) = Some (Mark x.0, length text - length x.1)

-- the kind and the length of the word that a text begins with, by whether its first byte is a letter, is a digit
abbrev word_by : Bool → Bool → List ℕ → Option (Kind × ℕ)
word_by true u text = Some (lettered (take (name_len text) text), name_len text)
word_by false true text = Some (Integer (decimal_value (take (digits_len text) text)), digits_len text)
word_by false false text = signed text (sign_at text)

abbrev first_word : List ℕ → Option (Kind × ℕ)
first_word [] = None
first_word (b ∷ bs) = word_by (is_ascii_alphabetic b) (is_ascii_digit b) (b ∷ bs)

-- the word keeps the limits of its kind
abbrev fits : Kind → List ℕ → Bool
fits (Reserved k) bs = true
fits (Name n) bs = nat_le (length bs) longest_name
fits (Integer v) bs = nat_le (length bs) most_digits && nat_le v largest_integer
fits (Mark s) bs = true

-- the words of a text whose first byte is at a place, if there are not too many
abbrev lex_word : (ℕ → List ℕ → Option (List Token)) → ℕ → List ℕ → Option (Kind × ℕ) → Option (List Token)
lex_word on p text None = None
lex_word on p text (Some w) = cond (fits w.0 (take w.1 text)) (option_map (λ ts. record { kind = w.0; place = p } ∷ ts) (on (p + w.1) (drop w.1 text))) None

abbrev lex_front : (ℕ → List ℕ → Option (List Token)) → ℕ → List ℕ → Option (List Token)
lex_front on p [] = Some []
lex_front on p (b ∷ bs) = lex_word on p (b ∷ bs) (first_word (b ∷ bs))

abbrev pub lex : ℕ → ℕ → List ℕ → Option (List Token)
lex zero p text = None
lex (suc n) p text = lex_front (lex n) (p + length (take (prefix_len is_separator text) text)) (drop (prefix_len is_separator text) text)

-- a word of letters
free : (bs : List ℕ) → false ≡ is_keyword bs → NoKeyword bs
free bs e l h =
    let same : keyword_at bs ≡ l = ap (λ xs. keyword_of (key xs)) h ∙ keyword_back l in
    true≢false (sym ((bytes_eq-Decides (capitals bs) (keyword_text (keyword_at bs))).1 (h ∙ ap keyword_text (sym same))) ∙ sym e)

letters : (text : List ℕ) (n : ℕ) (t : Bool) → t ≡ is_keyword (take n text) → BytesBegin is_ascii_alphabetic text → n ≡ name_len text → fits (lettered_by t (take n text)) (take n text) ≡ true → RightWord text (lettered_by t (take n text)) n
letters text n true e h l f = name_right text n (Reserved (keyword_at (take n text))) h l ((bytes_eq-Decides (capitals (take n text)) (keyword_text (keyword_at (take n text)))).0 (sym e))
letters text n false e h l f = name_right text n (Name (length (take n text))) h l (name_bytes text n h l, free (take n text) e, refl, grind (arith, nat_tests))

numbers : (text : List ℕ) (n v : ℕ) → BytesBegin is_ascii_digit text → n ≡ digits_len text → v ≡ decimal_value (take n text) → fits (Integer v) (take n text) ≡ true → RightWord text (Integer v) n
numbers text n v h l e f = integer_right text n v h l e (grind (arith, nat_tests)) (grind (arith, nat_tests))

abbrev word_or : Option (Kind × ℕ) → Kind × ℕ → Kind × ℕ
word_or None w = w
word_or (Some x) w = x

same_word : (k l : Kind) (m n : ℕ) → ◌≡◌ {A = Option (Kind × ℕ)} (Some (k, m)) (Some (l, n)) → (k ≡ l) × (m ≡ n)
same_word k l m n e = (ap (λ o. (word_or o (k, m)).0) e, ap (λ o. (word_or o (k, m)).1) e)

no_word : (k : Kind) (n : ℕ) → ◌≡◌ {A = Option (Kind × ℕ)} None (Some (k, n)) → ⊥
no_word k n e = cc

RightIf : List ℕ → Kind → ℕ → Type 0
RightIf text kind n = fits kind (take n text) ≡ true → RightWord text kind n

moved : (text : List ℕ) (k l : Kind) (m n : ℕ) → (k ≡ l) × (m ≡ n) → (fits k (take m text) ≡ true → RightWord text k m) → fits l (take n text) ≡ true → RightWord text l n
moved text k l m n e r = subst (λ (x : Kind × ℕ). fits x.0 (take x.1 text) ≡ true → RightWord text x.0 x.1) (λ i. (e.0 i, e.1 i)) r

signs : (text : List ℕ) (o : Option (Sign × List ℕ)) → o ≡ sign_at text → (kind : Kind) (n : ℕ) → signed text o ≡ Some (kind, n) → fits kind (take n text) ≡ true → RightWord text kind n
signs text None e kind n w = absurd (no_word kind n w)
signs text (Some x) e kind n w = moved text (Mark x.0) kind _ n (same_word _ kind _ n w) (λ f. sign_right text x.0 x.1 _ (first_found text x.0 x.1 e) refl)

words_by : (b : ℕ) (bs : List ℕ) (t u : Bool) → is_ascii_alphabetic b ≡ t → is_ascii_digit b ≡ u → (kind : Kind) (n : ℕ) → word_by t u (b ∷ bs) ≡ Some (kind, n) → fits kind (take n (b ∷ bs)) ≡ true → RightWord (b ∷ bs) kind n
words_by b bs true u e g kind n w = moved (b ∷ bs) _ kind _ n (same_word _ kind _ n w) (letters (b ∷ bs) (name_len (b ∷ bs)) _ refl e refl)
words_by b bs false true e g kind n w = moved (b ∷ bs) _ kind _ n (same_word _ kind _ n w) (numbers (b ∷ bs) (digits_len (b ∷ bs)) _ g refl refl)
words_by b bs false false e g kind n w = signs (b ∷ bs) (sign_at (b ∷ bs)) refl kind n w

-- the text, whose first byte is at a place, has these words and nothing else
record Ends (p : ℕ) (text : List ℕ) (ts : List Token) : Type 0 where
  place : ℕ
  tail : List ℕ
  words : BeginsWith p text ts place tail
  blank : Separators tail

abbrev behind : (p : ℕ) (text gap front : List ℕ) (kind : Kind) (m : ℕ) → Gap text gap front → RightWord front kind m → FirstWord p text (record { kind = kind; place = p + length gap })
behind p text gap front kind m g w = record {
  gap = gap;
  bytes = take m front;
  rest = drop m front;
  parted = g.parted ∙ ap (λ (xs : List ℕ). gap ++ xs) (sym (take-append-drop m front));
  blank = g.blank;
  longest = w.longest;
  says = w.says;
  there = refl;
}

more : (p : ℕ) (text : List ℕ) (t : Token) (ts : List Token) (w : FirstWord p text t) → Ends (t.place + length w.bytes) w.rest ts → Ends p text (t ∷ ts)
more p text t ts w x = record { place = x.place; tail = x.tail; words = (w, x.words); blank = x.blank }

some_tokens : (ts : List Token) → ◌≡◌ {A = Option (List Token)} None (Some ts) → ⊥
some_tokens ts e = cc

abbrev tokens_or : Option (List Token) → List Token
tokens_or None = []
tokens_or (Some ts) = ts

same_tokens : (ts us : List Token) → ◌≡◌ {A = Option (List Token)} (Some ts) (Some us) → ts ≡ us
same_tokens ts us e = ap (λ o. tokens_or o) e

abbrev Lexes : (ℕ → List ℕ → Option (List Token)) → Type 0
Lexes on = (p : ℕ) (text : List ℕ) (ts : List Token) → on p text ≡ Some ts → Ends p text ts

pushed : (p : ℕ) (text : List ℕ) (t : Token) (w : FirstWord p text t) (o : Option (List Token)) → ((us : List Token) → o ≡ Some us → Ends (t.place + length w.bytes) w.rest us) → (ts : List Token) → option_map (λ us. t ∷ us) o ≡ Some ts → Ends p text ts
pushed p text t w None on ts e = absurd (some_tokens ts e)
pushed p text t w (Some us) on ts e = subst (Ends p text) (same_tokens (t ∷ us) ts e) (more p text t us w (on us refl))

kept : (p : ℕ) (text gap front : List ℕ) (on : ℕ → List ℕ → Option (List Token)) → Lexes on → Gap text gap front → (kind : Kind) (m : ℕ) → (fits kind (take m front) ≡ true → RightWord front kind m) → (t : Bool) → fits kind (take m front) ≡ t → (ts : List Token) → cond t (option_map (λ us. record { kind = kind; place = p + length gap } ∷ us) (on (p + length gap + m) (drop m front))) None ≡ Some ts → Ends p text ts
kept p text gap front on l g kind m right false f ts e = absurd (some_tokens ts e)
kept p text gap front on l g kind m right true f ts e =
    let r = right f in
    let w = behind p text gap front kind m g r in
    pushed p text _ w (on (p + length gap + m) (drop m front)) (λ us u. subst (λ n. Ends (p + length gap + n) (drop m front) us) (sym (length-take-le m front r.within)) (l (p + length gap + m) (drop m front) us u)) ts e

worded : (p : ℕ) (text gap front : List ℕ) (on : ℕ → List ℕ → Option (List Token)) → Lexes on → Gap text gap front → (o : Option (Kind × ℕ)) → ((kind : Kind) (m : ℕ) → o ≡ Some (kind, m) → fits kind (take m front) ≡ true → RightWord front kind m) → (ts : List Token) → lex_word on (p + length gap) front o ≡ Some ts → Ends p text ts
worded p text gap front on l g None right ts e = absurd (some_tokens ts e)
worded p text gap front on l g (Some w) right ts e = kept p text gap front on l g w.0 w.1 (right w.0 w.1 refl) _ refl ts e

fronted : (p : ℕ) (text gap front : List ℕ) (on : ℕ → List ℕ → Option (List Token)) → Lexes on → Gap text gap front → (ts : List Token) → lex_front on (p + length gap) front ≡ Some ts → Ends p text ts
fronted p text gap [] on l g ts e = subst (Ends p text) (same_tokens [] ts e) (record { place = p; tail = text; words = (refl, refl); blank = (reads_end (record { place = p; rest = text }) text gap [] g refl refl).0 })
fronted p text gap (b ∷ bs) on l g ts e = worded p text gap (b ∷ bs) on l g (first_word (b ∷ bs)) (words_by b bs _ _ refl refl) ts e

lexes : (n : ℕ) → Lexes (lex n)
lexes zero p text ts e = absurd (some_tokens ts e)
lexes (suc n) p text ts e = let k = prefix_len is_separator text in fronted p text (take k text) (drop k text) (lex n) (lexes n) (gap_parts text _ _ k refl refl refl) ts e

spelled_by : (text : List ℕ) (ts : List Token) → Ends 0 text ts → Spelled text ts
spelled_by text ts x = record { place = x.place; tail = x.tail; words = x.words; blank = x.blank }

-- a text whose words are computed has these words
pub spelled : (n : ℕ) (text : List ℕ) (ts : List Token) → lex n 0 text ≡ Some ts → Spelled text ts
spelled n text ts e = spelled_by text ts (lexes n 0 text ts e)
