-- What holds of the words of every text. Assumes nothing.
use Rattle.std.specs.Prelude.{◌≡◌, ◌⊎◌, ℕ, List, [], ◌∷◌, ◌++◌, length, take, drop}
use Rattle.words.specs.declared.token.Token.{Token}
use Rattle.words.specs.declared.faults.WordFault.{WordFault}
use Rattle.words.specs.Spelling.{Separators, Says, Spelled, Misspelled}

-- each text has a list of words, or a first wrong word
abbrev pub SomeReading : Type 0
SomeReading = (text : List ℕ) → ((tokens : List Token) × Spelled text tokens) ⊎ ((fault : WordFault) × Misspelled text fault)

-- it has one list of words at most
abbrev pub OneSpelling : Type 0
OneSpelling = (text : List ℕ) (tokens others : List Token) → Spelled text tokens → Spelled text others → tokens ≡ others

-- it has one first wrong word at most
abbrev pub OneMisspelling : Type 0
OneMisspelling = (text : List ℕ) (fault other : WordFault) → Misspelled text fault → Misspelled text other → fault ≡ other

-- it does not have both
abbrev pub NotBoth : Type 0
NotBoth = (text : List ℕ) (tokens : List Token) (fault : WordFault) → Spelled text tokens → Misspelled text fault → ⊥

-- separators, and the bytes of the word behind them
pub record Piece : Type 0 where
  pub gap : List ℕ
  pub bytes : List ℕ

-- pieces and the separators behind the last of them, put together again
abbrev pub together : List Piece → List ℕ → List ℕ
together [] tail = tail
together (x ∷ xs) tail = x.gap ++ (x.bytes ++ together xs tail)

-- the pieces are these words of the text, each where its token says
abbrev pub Pieces : List ℕ → List Piece → List Token → Type 0
Pieces text [] [] = Unit {0}
Pieces text [] (t ∷ ts) = ⊥
Pieces text (x ∷ xs) [] = ⊥
Pieces text (x ∷ xs) (t ∷ ts) = Separators x.gap × Says x.bytes t.kind × (take (length x.bytes) (drop t.place text) ≡ x.bytes) × Pieces text xs ts

-- the words of a text and the separators between them, put together again in order, are the text
abbrev pub PutTogether : Type 0
PutTogether = (text : List ℕ) (tokens : List Token) → Spelled text tokens → (pieces : List Piece) × (tail : List ℕ) × Pieces text pieces tokens × Separators tail × (together pieces tail ≡ text)

abbrev pub WordLaws : Type 0
WordLaws = SomeReading × OneSpelling × OneMisspelling × NotBoth × PutTogether
