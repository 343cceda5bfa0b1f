-- Each text has a list of words or a first wrong word. Assumes nothing.
use Rattle.std.proofs.Common.{◌≡◌, ℕ, zero, suc, ◌+◌, ◌<◌, ◌≤◌, Bool, true, false, ◌⊎◌, List, [], ◌∷◌, ◌++◌, length, take, drop, Some, None, Option, sym, refl, ap, ◌∙◌, inl, inr, true≢false, bytes_eq, take-append-drop, arith, length-append}
use Rattle.std.specs.List.{prefix_len}
use Rattle.std.specs.Char.{is_ascii_alphabetic, is_ascii_digit}
use Rattle.std.proofs.lemmas.Bool.{cases_lt}
use Rattle.std.proofs.lemmas.Slice.Eq.{bytes_eq-Decides}
use Rattle.words.specs.declared.token.Sign.{Sign}
use Rattle.words.specs.declared.token.Keyword.{Keyword}
use Rattle.words.specs.declared.token.Kind.{Kind}
use Rattle.words.specs.declared.token.Kind.TheVariants.{Reserved, Name, Integer, Mark}
use Rattle.words.specs.declared.token.Token.{Token}
use Rattle.words.specs.declared.faults.WordFault.{WordFault}
use Rattle.words.specs.declared.faults.WordFault.TheVariants.{NoWord, LongName, LargeInteger}
use Rattle.words.specs.Spelling.{is_separator, in_name, Separators, keyword_text, capitals, NoKeyword, longest_name, most_digits, largest_integer, decimal_value, FirstWord, BeginsWith, Spelled, FirstWordWrong, Misspelled}
use Rattle.words.proofs.SignTable.{sign_at}
use Rattle.words.specs.Inner.{Starts, BytesBegin, Gap, RightWord, BeginsWrong}
use Rattle.words.specs.Laws.{SomeReading}
use Rattle.words.proofs.Bytes.{word_starts, key, keyword_of, keyword_back}
use Rattle.words.proofs.Signs.{no_sign, first_found}
use Rattle.words.proofs.Fronts.{name_bytes, name_right, name_wrong, integer_right, integer_wrong, sign_right, sign_wrong}
use Rattle.words.proofs.Reading.{some_byte, gap_parts, gap_starts, reads_end, wrong_behind}

-- bytes are a keyword, or none
data Known (bytes : List ℕ) : Type 0 where
  reserved : (k : Keyword) → capitals bytes ≡ keyword_text k → Known bytes
  free : NoKeyword bytes → Known bytes

known_by : (bytes : List ℕ) (k : Keyword) (t : Bool) → t ≡ bytes_eq (capitals bytes) (keyword_text k) → k ≡ keyword_of (key (capitals bytes)) → Known bytes
known_by bytes k true e f = reserved k ((bytes_eq-Decides (capitals bytes) (keyword_text k)).0 (sym e))
known_by bytes k false e f = free (λ l h.
    let same : k ≡ l = f ∙ ap (λ bs. keyword_of (key bs)) h ∙ keyword_back l in
    true≢false (sym ((bytes_eq-Decides (capitals bytes) (keyword_text k)).1 (h ∙ ap keyword_text (sym same))) ∙ sym e))

known : (bytes : List ℕ) → Known bytes
known bytes = known_by bytes (keyword_of (key (capitals bytes))) _ refl refl

-- a text that begins with no separator begins with a right word or with a wrong one
data Begun (text : List ℕ) (p : ℕ) : Type 0 where
  right : (kind : Kind) (n : ℕ) → RightWord text kind n → Begun text p
  wrong : (fault : WordFault) → BeginsWrong text p fault → Begun text p

named : (text : List ℕ) (p n : ℕ) → BytesBegin is_ascii_alphabetic text → n ≡ prefix_len in_name text → Known (take n text) → length (take n text) ≤ longest_name → Begun text p
named text p n h e (reserved k f) l = right (Reserved k) n (name_right text n (Reserved k) h e f)
named text p n h e (free f) l = right (Name (length (take n text))) n (name_right text n _ h e (name_bytes text n h e, f, refl, l))

letter : (text : List ℕ) (p n : ℕ) → BytesBegin is_ascii_alphabetic text → n ≡ prefix_len in_name text → Begun text p
letter text p n h e = elim (cases_lt longest_name (length (take n text))) [
  | inl l ↦ wrong (LongName p) (name_wrong text n p h e l)
  | inr l ↦ named text p n h e (known (take n text)) l
]

digit : (text : List ℕ) (p n : ℕ) → BytesBegin is_ascii_digit text → n ≡ prefix_len is_ascii_digit text → Begun text p
digit text p n h e = elim (cases_lt most_digits (length (take n text))) [
  | inl l ↦ wrong (LargeInteger p) (integer_wrong text n p h e (λ few low. omega arith))
  | inr l ↦ elim (cases_lt largest_integer (decimal_value (take n text))) [
    | inl m ↦ wrong (LargeInteger p) (integer_wrong text n p h e (λ few low. omega arith))
    | inr m ↦ right (Integer (decimal_value (take n text))) n (integer_right text n _ h e refl l m)
  ]
]

signed : (text : List ℕ) (p : ℕ) → Starts text → (BytesBegin is_ascii_alphabetic text → ⊥) → (BytesBegin is_ascii_digit text → ⊥) → (o : Option (Sign × List ℕ)) → o ≡ sign_at text → Begun text p
signed text p s l d None e = wrong (NoWord p) (sign_wrong text p s l d (no_sign text e))
signed text p s l d (Some x) e = right (Mark x.0) _ (sign_right text x.0 x.1 _ (first_found text x.0 x.1 e) refl)

other : (b : ℕ) (bs : List ℕ) (p : ℕ) (t u : Bool) → is_ascii_alphabetic b ≡ t → is_ascii_digit b ≡ u → is_separator b ≡ false → Begun (b ∷ bs) p
other b bs p true u e f s = letter (b ∷ bs) p _ e refl
other b bs p false true e f s = digit (b ∷ bs) p _ f refl
other b bs p false false e f s = signed (b ∷ bs) p s (λ h. true≢false (sym h ∙ e)) (λ h. true≢false (sym h ∙ f)) _ refl

begun : (text : List ℕ) (p : ℕ) → Starts text → Begun text p
begun [] p s = absurd s
begun (b ∷ bs) p s = other b bs p _ _ refl refl s

-- only separators are left, or a right word comes first, or a wrong one
data Next (p : ℕ) (text : List ℕ) : Type 0 where
  none : Separators text → Next p text
  word : (t : Token) → FirstWord p text t → Next p text
  fault : (f : WordFault) → FirstWordWrong p text f → Next p text

right_behind : (p : ℕ) (text gap front : List ℕ) (kind : Kind) (m : ℕ) → Gap text gap front → RightWord front kind m → FirstWord p text (record { kind = kind; place = p + length gap })
right_behind p text gap front kind m g w = record {
  gap = gap;
  bytes = take m front;
  rest = drop m front;
  parted = g.parted ∙ ap (λ (xs : List ℕ). gap ++ xs) (sym (take-append-drop m front));
  blank = g.blank;
  longest = w.longest;
  says = w.says;
  there = refl;
}

behind : (p : ℕ) (text gap front : List ℕ) → Gap text gap front → Begun front (p + length gap) → Next p text
behind p text gap front g (right kind m w) = word _ (right_behind p text gap front kind m g w)
behind p text gap front g (wrong f w) = fault f (wrong_behind p text gap front (p + length gap) f g.parted g.blank refl w)

next_at : (p : ℕ) (text gap front : List ℕ) → Gap text gap front → Next p text
next_at p text gap front g = elim (cases_lt 0 (length front)) [
  | inl l ↦ behind p text gap front g (begun front (p + length gap) (gap_starts text gap front g l))
  | inr l ↦ none (reads_end (record { place = p; rest = text }) text gap front g refl (omega arith)).0
]

next : (p : ℕ) (text : List ℕ) → Next p text
next p text = let n = prefix_len is_separator text in next_at p text (take n text) (drop n text) (gap_parts text _ _ n refl refl refl)

-- how a text ends that begins with right words
data End (p : ℕ) (text : List ℕ) : Type 0 where
  done : (ts : List Token) (q : ℕ) (tail : List ℕ) → BeginsWith p text ts q tail → Separators tail → End p text
  stops : (ts : List Token) (q : ℕ) (tail : List ℕ) → BeginsWith p text ts q tail → (f : WordFault) → FirstWordWrong q tail f → End p text

after : (p : ℕ) (text : List ℕ) (t : Token) (w : FirstWord p text t) → End (t.place + length w.bytes) w.rest → End p text
after p text t w (done ts q tail b s) = done (t ∷ ts) q tail (w, b) s
after p text t w (stops ts q tail b f s) = stops (t ∷ ts) q tail (w, b) f s

shorter : (p : ℕ) (text : List ℕ) (t : Token) (w : FirstWord p text t) → length w.rest < length text
shorter p text t w = let n = some_byte w.bytes (word_starts w.bytes w.longest.one) in omega (arith, ap (length {A = ℕ}) w.parted, length-append {A = ℕ})

step : (p : ℕ) (text : List ℕ) → ((q : ℕ) (rest : List ℕ) → length rest < length text → End q rest) → Next p text → End p text
step p text on (none s) = done [] p text (refl, refl) s
step p text on (fault f w) = stops [] p text (refl, refl) f w
step p text on (word t w) = after p text t w (on (t.place + length w.bytes) w.rest (shorter p text t w))

ends : (n p : ℕ) (text : List ℕ) → length text < n → End p text
ends zero p text l = absurd (omega arith)
ends (suc n) p text l = step p text (λ q rest s. ends n q rest (omega arith)) (next p text)

some_end : (text : List ℕ) → End 0 text → ((tokens : List Token) × Spelled text tokens) ⊎ ((fault : WordFault) × Misspelled text fault)
some_end text (done ts q tail b s) = inl (ts, record { place = q; tail = tail; words = b; blank = s })
some_end text (stops ts q tail b f w) = inr (f, record { before = ts; place = q; tail = tail; words = b; wrong = w })

pub some_reading : SomeReading
some_reading text = some_end text (ends (suc (length text)) 0 text (omega arith))
