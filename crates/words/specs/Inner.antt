-- What private functions of the reader promise one another; no public contract cites it. Assumes nothing.
use Rattle.std.specs.Prelude.{◌≡◌, ℕ, ◌≤◌, Bool, true, false, List, [], ◌∷◌, ◌++◌, length, take, drop, Result, Ok, Err}
use Rattle.words.specs.declared.token.Sign.{Sign}
use Rattle.words.specs.declared.token.Kind.{Kind}
use Rattle.words.specs.declared.reader.Word.{Word}
use Rattle.words.specs.declared.faults.WordFault.{WordFault}
use Rattle.words.specs.Spelling.{is_separator, Separators, sign_text, Longest, Says, WrongWord}

-- the text ends, or its first byte does not pass the test
abbrev pub Stops : (ℕ → Bool) → List ℕ → Type 0
Stops test [] = Unit {0}
Stops test (b ∷ bs) = test b ≡ false

-- the text begins with a byte that is no separator
abbrev pub Starts : List ℕ → Type 0
Starts [] = ⊥
Starts (b ∷ bs) = is_separator b ≡ false

-- the text is separators, and then a part that does not begin with one
pub record Gap (text gap front : List ℕ) : Type 0 where
  pub parted : text ≡ gap ++ front
  pub blank : Separators gap
  pub stops : Stops is_separator front

-- the text begins with a byte that passes the test
abbrev pub BytesBegin : (ℕ → Bool) → List ℕ → Type 0
BytesBegin test [] = ⊥
BytesBegin test (b ∷ bs) = test b ≡ true

-- the text begins with no sign
abbrev pub NoSign : List ℕ → Type 0
NoSign text = (s : Sign) (rest : List ℕ) → text ≡ sign_text s ++ rest → ⊥

-- the text begins with this sign and with no longer one, and the rest follows it
abbrev pub FirstSign : List ℕ → Sign → List ℕ → Type 0
FirstSign text s rest = (text ≡ sign_text s ++ rest) × ((t : Sign) (more : List ℕ) → text ≡ sign_text t ++ more → length (sign_text t) ≤ length (sign_text s))

-- the first n bytes of the text are a word of this kind, as long as it can be
pub record RightWord (text : List ℕ) (kind : Kind) (n : ℕ) : Type 0 where
  pub within : n ≤ length text
  pub longest : Longest (take n text) (drop n text)
  pub says : Says (take n text) kind

-- the text, whose first byte is at the place p, begins with a word that is wrong
abbrev pub BeginsWrong : List ℕ → ℕ → WordFault → Type 0
BeginsWrong [] p fault = ⊥
BeginsWrong (b ∷ more) p fault = WrongWord b more p fault

-- what a text, whose first byte is at the place p, is found to begin with: a right word of so many bytes, or a wrong one
abbrev pub Finds : List ℕ → ℕ → Result (Kind × ℕ) WordFault → Type 0
Finds text p (Ok word) = RightWord text word.0 word.1
Finds text p (Err fault) = BeginsWrong text p fault

-- the text, whose first byte is at the place p, begins with this word, which is as long as it can be and says what its bytes say
pub record Found (text : List ℕ) (p : ℕ) (word : Word) (rest : List ℕ) : Type 0 where
  pub parted : text ≡ word.text.now ++ rest
  pub longest : Longest word.text.now rest
  pub says : Says word.text.now word.kind
  pub there : word.place ≡ p
