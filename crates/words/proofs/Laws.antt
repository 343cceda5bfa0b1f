-- A text has one list of words, or one first wrong word, and its pieces make it up. Assumes nothing.
use Rattle.std.proofs.Common.{◌≡◌, ℕ, ◌+◌, ◌<◌, ◌≤◌, List, [], ◌∷◌, ◌++◌, length, take, drop, sym, refl, ap, ap₂, ◌∙◌, subst, true≢false, append_assoc, take_at, drop_at, arith, length-append}
use Rattle.std.proofs.lemmas.List.{length-map}
use Rattle.words.specs.declared.token.Kind.{Kind}
use Rattle.words.specs.declared.token.Kind.TheVariants.{Reserved, Name, Integer, Mark}
use Rattle.words.specs.declared.token.Token.{Token}
use Rattle.words.specs.declared.faults.WordFault.{WordFault}
use Rattle.words.specs.declared.faults.WordFault.TheVariants.{NoWord, LongName, LargeInteger}
use Rattle.words.specs.Spelling.{is_separator, Separators, Lettered, Digits, OneWord, Longest, Says, FirstWord, BeginsWith, WrongWord, FirstWordWrong, longest_name, most_digits, largest_integer, decimal_value}
use Rattle.words.specs.Laws.{OneSpelling, OneMisspelling, NotBoth, Piece, together, Pieces, PutTogether, WordLaws}
use Rattle.words.specs.Inner.{Starts}
use Rattle.words.proofs.Total.{some_reading}
use Rattle.words.proofs.Bytes.{lead, first, one_sign, one_keyword, keyword_length, lead_lettered, lead_digits, lead_reserved, lead_mark, word_starts, starts_append, every_right, blank_starts}

-- one fact in place of another that is the same
along : {A B : Type 0} → A ≡ B → A → B
along e x = subst (λ (X : Type 0). X) e x

-- separators end where the first word begins
one_gap : (g h x y : List ℕ) → Separators g → Separators h → Starts x → Starts y → g ++ x ≡ h ++ y → (g ≡ h) × (x ≡ y)
one_gap [] [] x y a b s t e = (refl, e)
one_gap [] (c ∷ h) x y a b s t e = let z : Starts (c ∷ (h ++ y)) = subst Starts e s in absurd (true≢false (sym b.0 ∙ z))
one_gap (c ∷ g) [] x y a b s t e = let z : Starts (c ∷ (g ++ x)) = subst Starts (sym e) t in absurd (true≢false (sym a.0 ∙ z))
one_gap (c ∷ g) (d ∷ h) x y a b s t e =
    let p : c ≡ d = cc in let q : g ++ x ≡ h ++ y = cc in
    let r = one_gap g h x y a.1 b.1 s t q in (ap₂ (λ (u : ℕ) (us : List ℕ). u ∷ us) p r.0, r.1)

-- of two fronts of one text each is the other, or has bytes more than the other
data Fronts (a x b y : List ℕ) : Type 0 where
  same : a ≡ b → x ≡ y → Fronts a x b y
  shorter : (c : ℕ) (more : List ℕ) → b ≡ a ++ c ∷ more → x ≡ c ∷ (more ++ y) → Fronts a x b y
  longer : (c : ℕ) (more : List ℕ) → a ≡ b ++ c ∷ more → y ≡ c ∷ (more ++ x) → Fronts a x b y

fronts_under : (c d : ℕ) (a x b y : List ℕ) → c ≡ d → Fronts a x b y → Fronts (c ∷ a) x (d ∷ b) y
fronts_under c d a x b y p (same e f) = same (cc) f
fronts_under c d a x b y p (shorter z more e f) = shorter z more (cc) f
fronts_under c d a x b y p (longer z more e f) = longer z more (cc) f

fronts : (a x b y : List ℕ) → a ++ x ≡ b ++ y → Fronts a x b y
fronts [] x [] y e = same refl e
fronts [] x (c ∷ b) y e = shorter c b refl e
fronts (c ∷ a) x [] y e = longer c a refl (sym e)
fronts (c ∷ a) x (d ∷ b) y e = fronts_under c d a x b y (cc) (fronts a x b y (cc))

-- a text begins with one longest word
one_longest : (a x b y : List ℕ) → Longest a x → Longest b y → a ++ x ≡ b ++ y → (a ≡ b) × (x ≡ y)
one_longest a x b y l m e = elim (fronts a x b y e) [
  | same p q ↦ (p, q)
  | shorter c more p q ↦ absurd (l.no_longer c more y q (subst OneWord p m.one))
  | longer c more p q ↦ absurd (m.no_longer c more x q (subst OneWord p l.one))
]

-- the bytes of a right word say one kind
abbrev leads : Kind → ℕ
leads (Mark s) = 2
leads (Reserved k) = 0
leads (Name n) = 0
leads (Integer v) = 1

lead_says : (bytes : List ℕ) (k : Kind) → Says bytes k → lead (first bytes) ≡ leads k
lead_says bytes (Mark s) h = lead_mark bytes s h
lead_says bytes (Reserved k) h = lead_reserved bytes k h
lead_says bytes (Name n) h = lead_lettered bytes h.0
lead_says bytes (Integer v) h = lead_digits bytes h.0

alike : (bytes : List ℕ) (k l : Kind) → Says bytes k → Says bytes l → leads k ≡ leads l
alike bytes k l h i = sym (lead_says bytes k h) ∙ lead_says bytes l i

one_kind : (bytes : List ℕ) (k l : Kind) → leads k ≡ leads l → Says bytes k → Says bytes l → k ≡ l
one_kind bytes (Mark s) (Mark t) e h i = ap Mark (one_sign s t (sym h ∙ i))
one_kind bytes (Mark s) (Reserved k) e h i = absurd (omega arith)
one_kind bytes (Mark s) (Name n) e h i = absurd (omega arith)
one_kind bytes (Mark s) (Integer v) e h i = absurd (omega arith)
one_kind bytes (Reserved k) (Mark s) e h i = absurd (omega arith)
one_kind bytes (Reserved k) (Reserved l) e h i = ap Reserved (one_keyword k l (sym h ∙ i))
one_kind bytes (Reserved k) (Name n) e h i = absurd (i.1 k h)
one_kind bytes (Reserved k) (Integer v) e h i = absurd (omega arith)
one_kind bytes (Name n) (Mark s) e h i = absurd (omega arith)
one_kind bytes (Name n) (Reserved k) e h i = absurd (h.1 k i)
one_kind bytes (Name n) (Name m) e h i = ap Name (h.2 ∙ sym i.2)
one_kind bytes (Name n) (Integer v) e h i = absurd (omega arith)
one_kind bytes (Integer v) (Mark s) e h i = absurd (omega arith)
one_kind bytes (Integer v) (Reserved k) e h i = absurd (omega arith)
one_kind bytes (Integer v) (Name n) e h i = absurd (omega arith)
one_kind bytes (Integer v) (Integer w) e h i = ap Integer (h.1 ∙ sym i.1)

pub one_saying : (bytes : List ℕ) (k l : Kind) → Says bytes k → Says bytes l → k ≡ l
one_saying bytes k l h i = one_kind bytes k l (alike bytes k l h i) h i

-- a text begins with one right word
record SameWord (p : ℕ) (text : List ℕ) (t u : Token) (w : FirstWord p text t) (v : FirstWord p text u) : Type 0 where
  tokens : t ≡ u
  bytes : w.bytes ≡ v.bytes
  rest : w.rest ≡ v.rest

one_word : (p : ℕ) (text : List ℕ) (t u : Token) (w : FirstWord p text t) (v : FirstWord p text u) → SameWord p text t u w v
one_word p text t u w v =
    let s = starts_append w.bytes w.rest (word_starts w.bytes w.longest.one) in
    let r = starts_append v.bytes v.rest (word_starts v.bytes v.longest.one) in
    let g = one_gap w.gap v.gap (w.bytes ++ w.rest) (v.bytes ++ v.rest) w.blank v.blank s r (sym w.parted ∙ v.parted) in
    let b = one_longest w.bytes w.rest v.bytes v.rest w.longest v.longest g.1 in
    let k = one_saying v.bytes t.kind u.kind (subst (λ (bs : List ℕ). Says bs t.kind) b.0 w.says) v.says in
    let q : t.place ≡ u.place = w.there ∙ ap (λ (xs : List ℕ). p + length xs) g.0 ∙ sym v.there in
    record { tokens = λ i. record { kind = k i; place = q i }; bytes = b.0; rest = b.1 }

-- a wrong word begins with no separator
wrong_starts : (b : ℕ) (more : List ℕ) (p : ℕ) (fault : WordFault) → WrongWord b more p fault → Starts (b ∷ more)
wrong_starts b more p (NoWord q) h = h.1
wrong_starts b more p (LongName q) h = subst Starts (sym h.3) (starts_append h.1 h.2 (word_starts h.1 h.4.one))
wrong_starts b more p (LargeInteger q) h = subst Starts (sym h.3) (starts_append h.1 h.2 (word_starts h.1 h.4.one))

-- a long name, and a large integer, say nothing
long_silent : (bytes : List ℕ) (k : Kind) → Lettered bytes → longest_name < length bytes → Says bytes k → ⊥
long_silent bytes (Mark s) l n h = let x = lead_lettered bytes l in let y = lead_mark bytes s h in omega arith
long_silent bytes (Reserved k) l n h = let x = keyword_length k in let y = ap (length {A = ℕ}) h in omega (arith, length-map {A = ℕ} {B = ℕ})
long_silent bytes (Name m) l n h = omega arith
long_silent bytes (Integer v) l n h = let x = lead_lettered bytes l in let y = lead_digits bytes h.0 in omega arith

large_silent : (bytes : List ℕ) (k : Kind) → Digits bytes → (length bytes ≤ most_digits → decimal_value bytes ≤ largest_integer → ⊥) → Says bytes k → ⊥
large_silent bytes (Mark s) d n h = let x = lead_digits bytes d in let y = lead_mark bytes s h in omega arith
large_silent bytes (Reserved k) d n h = let x = lead_digits bytes d in let y = lead_reserved bytes k h in omega arith
large_silent bytes (Name m) d n h = let x = lead_digits bytes d in let y = lead_lettered bytes h.0 in omega arith
large_silent bytes (Integer v) d n h = n h.2 (omega arith)

right_word : (b : ℕ) (more : List ℕ) (p : ℕ) (fault : WordFault) → WrongWord b more p fault → (bytes rest : List ℕ) (k : Kind) → b ∷ more ≡ bytes ++ rest → Longest bytes rest → Says bytes k → ⊥
right_word b more p (NoWord q) h bytes rest k e l s = h.2 bytes rest e l.one
right_word b more p (LongName q) h bytes rest k e l s =
    let z = one_longest bytes rest h.1 h.2 l h.4 (sym e ∙ h.3) in
    long_silent h.1 k h.5 h.6 (subst (λ (bs : List ℕ). Says bs k) z.0 s)
right_word b more p (LargeInteger q) h bytes rest k e l s =
    let z = one_longest bytes rest h.1 h.2 l h.4 (sym e ∙ h.3) in
    large_silent h.1 k h.5 h.6 (subst (λ (bs : List ℕ). Says bs k) z.0 s)

-- no right word begins a text where a wrong one does, or where only separators are left
abbrev Stuck : ℕ → List ℕ → Type 0
Stuck p text = (t : Token) → FirstWord p text t → ⊥

gap_starts : (p : ℕ) (text : List ℕ) (t : Token) (w : FirstWord p text t) → Starts (w.bytes ++ w.rest)
gap_starts p text t w = starts_append w.bytes w.rest (word_starts w.bytes w.longest.one)

stuck_wrong : (p : ℕ) (text : List ℕ) (fault : WordFault) → FirstWordWrong p text fault → Stuck p text
stuck_wrong p text fault f t w =
    let g = one_gap f.gap w.gap (f.first ∷ f.more) (w.bytes ++ w.rest) f.blank w.blank (wrong_starts f.first f.more _ fault f.wrong) (gap_starts p text t w) (sym f.parted ∙ w.parted) in
    right_word f.first f.more _ fault f.wrong w.bytes w.rest t.kind g.1 w.longest w.says

stuck_blank : (p : ℕ) (text : List ℕ) → Separators text → Stuck p text
stuck_blank p text h t w = blank_starts (w.bytes ++ w.rest) (every_right is_separator w.gap (w.bytes ++ w.rest) (subst Separators w.parted h)) (gap_starts p text t w)

blank_wrong : (p : ℕ) (text : List ℕ) (fault : WordFault) → Separators text → FirstWordWrong p text fault → ⊥
blank_wrong p text fault h f = blank_starts (f.first ∷ f.more) (every_right is_separator f.gap (f.first ∷ f.more) (subst Separators f.parted h)) (wrong_starts f.first f.more _ fault f.wrong)

-- a wrong word is wrong in one way
one_wrong : (b : ℕ) (more : List ℕ) (p : ℕ) (f g : WordFault) → WrongWord b more p f → WrongWord b more p g → f ≡ g
one_wrong b more p (NoWord q) (NoWord r) h i = ap NoWord (h.0 ∙ sym i.0)
one_wrong b more p (NoWord q) (LongName r) h i = absurd (h.2 i.1 i.2 i.3 i.4.one)
one_wrong b more p (NoWord q) (LargeInteger r) h i = absurd (h.2 i.1 i.2 i.3 i.4.one)
one_wrong b more p (LongName q) (NoWord r) h i = absurd (i.2 h.1 h.2 h.3 h.4.one)
one_wrong b more p (LongName q) (LongName r) h i = ap LongName (h.0 ∙ sym i.0)
one_wrong b more p (LongName q) (LargeInteger r) h i =
    let z = one_longest h.1 h.2 i.1 i.2 h.4 i.4 (sym h.3 ∙ i.3) in let x = lead_lettered h.1 h.5 in let y = lead_digits i.1 i.5 in let e = ap (λ bs. lead (first bs)) z.0 in absurd (omega arith)
one_wrong b more p (LargeInteger q) (NoWord r) h i = absurd (i.2 h.1 h.2 h.3 h.4.one)
one_wrong b more p (LargeInteger q) (LongName r) h i =
    let z = one_longest h.1 h.2 i.1 i.2 h.4 i.4 (sym h.3 ∙ i.3) in let x = lead_digits h.1 h.5 in let y = lead_lettered i.1 i.5 in let e = ap (λ bs. lead (first bs)) z.0 in absurd (omega arith)
one_wrong b more p (LargeInteger q) (LargeInteger r) h i = ap LargeInteger (h.0 ∙ sym i.0)

one_first_wrong : (p : ℕ) (text : List ℕ) (f g : WordFault) → FirstWordWrong p text f → FirstWordWrong p text g → f ≡ g
one_first_wrong p text f g x y =
    let e = one_gap x.gap y.gap (x.first ∷ x.more) (y.first ∷ y.more) x.blank y.blank (wrong_starts x.first x.more _ f x.wrong) (wrong_starts y.first y.more _ g y.wrong) (sym x.parted ∙ y.parted) in
    let b : x.first ≡ y.first = let z = e.1 in cc in
    let m : x.more ≡ y.more = let z = e.1 in cc in
    let q : p + length x.gap ≡ p + length y.gap = ap (λ (xs : List ℕ). p + length xs) e.0 in
    one_wrong y.first y.more (p + length y.gap) f g (along (λ i. WrongWord (b i) (m i) (q i) f) x.wrong) y.wrong

-- up to where no right word follows, a text begins with one list of words
record SameWords (ts us : List Token) (q : ℕ) (rest : List ℕ) (r : ℕ) (tail : List ℕ) : Type 0 where
  tokens : ts ≡ us
  place : q ≡ r
  after : rest ≡ tail

same_words : (p : ℕ) (text : List ℕ) (ts us : List Token) (q : ℕ) (rest : List ℕ) (r : ℕ) (tail : List ℕ) → BeginsWith p text ts q rest → BeginsWith p text us r tail → Stuck q rest → Stuck r tail → SameWords ts us q rest r tail
same_words p text [] [] q rest r tail x y s t = record { tokens = refl; place = x.0 ∙ sym y.0; after = x.1 ∙ sym y.1 }
same_words p text [] (u ∷ us) q rest r tail x y s t = absurd (s u (along (λ i. FirstWord (sym x.0 i) (sym x.1 i) u) y.0))
same_words p text (u ∷ ts) [] q rest r tail x y s t = absurd (t u (along (λ i. FirstWord (sym y.0 i) (sym y.1 i) u) x.0))
same_words p text (v ∷ ts) (u ∷ us) q rest r tail x y s t =
    let w = one_word p text v u x.0 y.0 in
    let at : v.place + length x.0.bytes ≡ u.place + length y.0.bytes = λ i. (w.tokens i).place + length (w.bytes i) in
    let z = same_words (u.place + length y.0.bytes) y.0.rest ts us q rest r tail (along (λ i. BeginsWith (at i) (w.rest i) ts q rest) x.1) y.1 s t in
    record { tokens = ap₂ (λ (a : Token) (as' : List Token). a ∷ as') w.tokens z.tokens; place = z.place; after = z.after }

pub one_spelling : OneSpelling
one_spelling text ts us x y = (same_words 0 text ts us x.place x.tail y.place y.tail x.words y.words (stuck_blank x.place x.tail x.blank) (stuck_blank y.place y.tail y.blank)).tokens

pub one_misspelling : OneMisspelling
one_misspelling text f g x y =
    let z = same_words 0 text x.before y.before x.place x.tail y.place y.tail x.words y.words (stuck_wrong x.place x.tail f x.wrong) (stuck_wrong y.place y.tail g y.wrong) in
    one_first_wrong y.place y.tail f g (along (λ i. FirstWordWrong (z.place i) (z.after i) f) x.wrong) y.wrong

pub not_both : NotBoth
not_both text ts f x y =
    let z = same_words 0 text ts y.before x.place x.tail y.place y.tail x.words y.words (stuck_blank x.place x.tail x.blank) (stuck_wrong y.place y.tail f y.wrong) in
    blank_wrong y.place y.tail f (subst Separators z.after x.blank) y.wrong

-- the pieces of a text of which `front` stands before
record Parted (text : List ℕ) (here : List ℕ) (ts : List Token) (rest : List ℕ) : Type 0 where
  pieces : List Piece
  whole : together pieces rest ≡ here
  right : Pieces text pieces ts

piece_at : (front gap bytes rest : List ℕ) (n : ℕ) → n ≡ length front + length gap → take (length bytes) (drop n (front ++ (gap ++ (bytes ++ rest)))) ≡ bytes
piece_at front gap bytes rest n e =
    ap (λ (xs : List ℕ). take (length bytes) (drop n xs)) (sym (append_assoc front gap (bytes ++ rest))) ∙
    ap (take (length bytes)) (drop_at (front ++ gap) (bytes ++ rest) n (length-append front gap ∙ sym e)) ∙ take_at bytes rest (length bytes) refl

parted : (front here : List ℕ) (p : ℕ) (ts : List Token) (q : ℕ) (rest : List ℕ) → p ≡ length front → BeginsWith p here ts q rest → Parted (front ++ here) here ts rest
parted front here p [] q rest e x = record { pieces = []; whole = x.1; right = tt }
parted front here p (t ∷ ts) q rest e x =
    let w = x.0 in
    let l : t.place + length w.bytes ≡ length (front ++ (w.gap ++ w.bytes)) = omega (arith, w.there, length-append {A = ℕ}) in
    let z = parted (front ++ (w.gap ++ w.bytes)) w.rest (t.place + length w.bytes) ts q rest l x.1 in
    let same' : (front ++ (w.gap ++ w.bytes)) ++ w.rest ≡ front ++ here = append_assoc front (w.gap ++ w.bytes) w.rest ∙ ap (λ (xs : List ℕ). front ++ xs) (append_assoc w.gap w.bytes w.rest ∙ sym w.parted) in
    record {
      pieces = record { gap = w.gap; bytes = w.bytes } ∷ z.pieces;
      whole = ap (λ (xs : List ℕ). w.gap ++ (w.bytes ++ xs)) z.whole ∙ sym w.parted;
      right = (
        w.blank,
        w.says,
        subst (λ (xs : List ℕ). take (length w.bytes) (drop t.place (front ++ xs)) ≡ w.bytes) (sym w.parted) (piece_at front w.gap w.bytes w.rest t.place (omega (arith, w.there))),
        subst (λ (xs : List ℕ). Pieces xs z.pieces ts) same' z.right,
      );
    }

pub whole : PutTogether
whole text ts x = let z = parted [] text 0 ts x.place x.tail refl x.words in (z.pieces, x.tail, z.right, x.blank, z.whole)

pub word_laws_lem : WordLaws
word_laws_lem = (some_reading, one_spelling, one_misspelling, not_both, whole)
