-- From the word behind the separators to the first word of what is unread. Assumes nothing.
use Rattle.std.proofs.Common.{◌≡◌, ℕ, ◌+◌, ◌<◌, ◌≤◌, List, [], ◌∷◌, ◌++◌, length, take, drop, sym, refl, ap, ◌∙◌, subst, ap₂, append-nil, take-append-drop, arith, length-append}
use Rattle.std.proofs.lemmas.List.{nil_from_length}
use Rattle.std.specs.List.{prefix_len}
use Rattle.words.specs.declared.token.Token.{Token}
use Rattle.words.specs.declared.faults.WordFault.{WordFault}
use Rattle.words.specs.Spelling.{is_separator, Separators, Longest, Says, BeginsWith, WrongWord, FirstWordWrong}
use Rattle.words.specs.declared.reader.Word.{Word}
use Rattle.words.specs.Reading.{Unread, ReadsWord, token_of}
use Rattle.words.specs.Inner.{Starts, Stops, Gap, Found, RightWord, BeginsWrong}
use Rattle.words.proofs.Bytes.{word_starts}
use Rattle.words.proofs.Runs.{run_at}

-- separators and what follows them
pub gap_parts : (text gap front : List ℕ) (n : ℕ) → n ≡ prefix_len is_separator text → gap ≡ take n text → front ≡ drop n text → Gap text gap front
gap_parts text gap front n e f g =
    let r = run_at is_separator text n e in
    record {
      parted = sym (take-append-drop n text) ∙ ap₂ (λ (xs ys : List ℕ). xs ++ ys) (sym f) (sym g);
      blank = subst Separators (sym f) r.every;
      stops = subst (Stops is_separator) (sym g) r.stops;
    }

starts : (xs : List ℕ) → Stops is_separator xs → 0 < length xs → Starts xs
starts [] s l = absurd (omega arith)
starts (b ∷ bs) s l = s

pub gap_starts : (text gap front : List ℕ) → Gap text gap front → 0 < length front → Starts front
gap_starts text gap front g l = starts front g.stops l

-- a right word and what follows it
pub word_parts : (text : List ℕ) (p : ℕ) (word : Word) (rest : List ℕ) (n : ℕ) → RightWord text word.kind n → word.text.now ≡ take n text → rest ≡ drop n text → word.place ≡ p → Found text p word rest
word_parts text p word rest n w e f q = record {
  parted = sym (take-append-drop n text) ∙ ap₂ (λ (xs ys : List ℕ). xs ++ ys) (sym e) (sym f);
  longest = subst (λ (xs : List ℕ). Longest xs rest) (sym e) (subst (Longest (take n text)) (sym f) w.longest);
  says = subst (λ (xs : List ℕ). Says xs word.kind) (sym e) w.says;
  there = q;
}

pub found_sizes : (text : List ℕ) (p : ℕ) (word : Word) (rest : List ℕ) → Found text p word rest → length word.text.now + length rest ≡ length text
found_sizes text p word rest w = omega (arith, ap (length {A = ℕ}) w.parted, length-append word.text.now rest)

-- what is found behind the separators is what the reader answers
pub reads_end : (before : Unread) (text gap front : List ℕ) → Gap text gap front → text ≡ before.rest → length front ≡ 0 → Separators before.rest × (front ≡ []) × (length gap ≡ length before.rest)
reads_end before text gap front g e l =
    let none : front ≡ [] = nil_from_length front l in
    let all : gap ≡ before.rest = sym (g.parted ∙ ap (λ (xs : List ℕ). gap ++ xs) none ∙ append-nil gap) ∙ e in
    (subst Separators all g.blank, none, ap (length {A = ℕ}) all)

pub wrong_behind : (p : ℕ) (text gap front : List ℕ) (q : ℕ) (fault : WordFault) → text ≡ gap ++ front → Separators gap → q ≡ p + length gap → BeginsWrong front q fault → FirstWordWrong p text fault
wrong_behind p text gap [] q fault e s l h = absurd h
wrong_behind p text gap (b ∷ bs) q fault e s l h = record { gap = gap; first = b; more = bs; parted = e; blank = s; wrong = subst (λ (k : ℕ). WrongWord b bs k fault) l h }

pub reads_wrong : (before : Unread) (text gap front : List ℕ) (q : ℕ) (fault : WordFault) → Gap text gap front → text ≡ before.rest → BeginsWrong front q fault → q ≡ before.place + length gap → FirstWordWrong before.place before.rest fault
reads_wrong before text gap front q fault g e w l = wrong_behind before.place before.rest gap front q fault (sym e ∙ g.parted) g.blank l w

pub reads_word : (before : Unread) (word : Word) (after : Unread) (text gap front : List ℕ) (q : ℕ) (rest : List ℕ) → Gap text gap front → text ≡ before.rest → Found front q word rest → q ≡ before.place + length gap → after.rest ≡ rest → after.place ≡ q + length word.text.now → ReadsWord before word after
reads_word before word after text gap front q rest g e w l r p = record {
  first = record {
    gap = gap;
    bytes = word.text.now;
    rest = rest;
    parted = sym e ∙ g.parted ∙ ap (λ (xs : List ℕ). gap ++ xs) w.parted;
    blank = g.blank;
    longest = w.longest;
    says = w.says;
    there = w.there ∙ l;
  };
  bytes = refl;
  rest = sym r;
  place = p ∙ ap (λ k. k + length word.text.now) (sym w.there);
}

-- one word more
pub begins_more : (p : ℕ) (text : List ℕ) (ts : List Token) (before : Unread) (word : Word) (after : Unread) → BeginsWith p text ts before.place before.rest → ReadsWord before word after → BeginsWith p text (ts ++ token_of word ∷ []) after.place after.rest
begins_more p text [] before word after b r =
    let w = r.first in (
      record {
        gap = w.gap;
        bytes = w.bytes;
        rest = w.rest;
        parted = sym b.1 ∙ w.parted;
        blank = w.blank;
        longest = w.longest;
        says = w.says;
        there = w.there ∙ ap (λ k. k + length w.gap) b.0;
      },
      (r.place ∙ ap (λ (xs : List ℕ). word.place + length xs) (sym r.bytes), sym r.rest),
    )
begins_more p text (t ∷ ts) before word after b r = (b.0, begins_more (t.place + length b.0.bytes) b.0.rest ts before word after b.1 r)

pub begins_pushed : (p : ℕ) (text : List ℕ) (ts us : List Token) (before : Unread) (word : Word) (after : Unread) → BeginsWith p text ts before.place before.rest → ReadsWord before word after → us ≡ ts ++ token_of word ∷ [] → BeginsWith p text us after.place after.rest
begins_pushed p text ts us before word after b r e = subst (λ (xs : List Token). BeginsWith p text xs after.place after.rest) (sym e) (begins_more p text ts before word after b r)

-- a word has bytes, so less is unread
pub some_byte : (bytes : List ℕ) → Starts bytes → 1 ≤ length bytes
some_byte [] s = absurd s
some_byte (b ∷ bs) s = omega arith

pub reads_less : (before : Unread) (word : Word) (after : Unread) → ReadsWord before word after → length after.rest < length before.rest
reads_less before word after r =
    let w = r.first in
    let n = some_byte w.bytes (word_starts w.bytes w.longest.one) in
    omega (arith, ap (length {A = ℕ}) w.parted, ap (length {A = ℕ}) r.rest, length-append {A = ℕ})
