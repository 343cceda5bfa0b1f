-- The words of a text. Assumes nothing.
use Rattle.std.specs.Prelude.{◌≡◌, ℕ, ◌+◌, ◌*◌, ◌-◌, ◌<◌, ◌≤◌, Bool, true, false, ◌||◌, ◌==◌, List, [], ◌∷◌, ◌++◌, length, map, codes}
use Rattle.std.specs.Char.{is_ascii_alphabetic, is_ascii_digit, to_ascii_uppercase}
use Rattle.words.specs.declared.token.Sign.{Sign}
use Rattle.words.specs.declared.token.Sign.TheVariants.{Dot, Colon, Semicolon, Comma, LeftParen, RightParen, LeftBracket, RightBracket, Slash, Backslash, Dollar, And, Or, Xor, Not, Star, Equal, Transfer, Branch, AndReduce, OrReduce, XorReduce}
use Rattle.words.specs.declared.token.Keyword.{Keyword}
use Rattle.words.specs.declared.token.Keyword.TheVariants.{Module, Inputs, Outputs, Memory, Buses, Body, Sequence, EndSequence, ControlReset, Null, DeadEnd, End}
use Rattle.words.specs.declared.token.Kind.{Kind}
use Rattle.words.specs.declared.token.Kind.TheVariants.{Reserved, Name, Integer, Mark}
use Rattle.words.specs.declared.token.Token.{Token}
use Rattle.words.specs.declared.faults.WordFault.{WordFault}
use Rattle.words.specs.declared.faults.WordFault.TheVariants.{NoWord, LongName, LargeInteger}

-- tabulator, line feed, carriage return and space separate words
abbrev pub is_separator : ℕ → Bool
is_separator b = b == 9 || b == 10 || b == 13 || b == 32

-- each byte passes the test
abbrev pub Every : (ℕ → Bool) → List ℕ → Type 0
Every test [] = Unit {0}
Every test (b ∷ bs) = (test b ≡ true) × Every test bs

abbrev pub Separators : List ℕ → Type 0
Separators = Every is_separator

-- how a sign is written
abbrev pub sign_text : Sign → List ℕ
sign_text Dot = codes "."
sign_text Colon = codes ":"
sign_text Semicolon = codes ";"
sign_text Comma = codes ","
sign_text LeftParen = codes "("
sign_text RightParen = codes ")"
sign_text LeftBracket = codes "["
sign_text RightBracket = codes "]"
sign_text Slash = codes "/"
sign_text Backslash = codes "\\"
sign_text Dollar = codes "$"
sign_text And = codes "&"
sign_text Or = codes "+"
sign_text Xor = codes "@"
sign_text Not = codes "^"
sign_text Star = codes "*"
sign_text Equal = codes "="
sign_text Transfer = codes "<="
sign_text Branch = codes "=>"
sign_text AndReduce = codes "&/"
sign_text OrReduce = codes "+/"
sign_text XorReduce = codes "@/"

-- how a keyword is written in capital letters
abbrev pub keyword_text : Keyword → List ℕ
keyword_text Module = codes "MODULE"
keyword_text Inputs = codes "INPUTS"
keyword_text Outputs = codes "OUTPUTS"
keyword_text Memory = codes "MEMORY"
keyword_text Buses = codes "BUSES"
keyword_text Body = codes "BODY"
keyword_text Sequence = codes "SEQUENCE"
keyword_text EndSequence = codes "ENDSEQUENCE"
keyword_text ControlReset = codes "CONTROLRESET"
keyword_text Null = codes "NULL"
keyword_text DeadEnd = codes "DEADEND"
keyword_text End = codes "END"

-- in which case a letter is written makes no difference
abbrev pub capitals : List ℕ → List ℕ
capitals = map to_ascii_uppercase

-- a letter, a digit or an underscore
abbrev pub in_name : ℕ → Bool
in_name b = is_ascii_alphabetic b || is_ascii_digit b || b == 95

-- a letter, then letters, digits or underscores
abbrev pub Lettered : List ℕ → Type 0
Lettered [] = ⊥
Lettered (b ∷ bs) = (is_ascii_alphabetic b ≡ true) × Every in_name bs

-- one digit or more
abbrev pub Digits : List ℕ → Type 0
Digits [] = ⊥
Digits (b ∷ bs) = Every is_ascii_digit (b ∷ bs)

-- the number that digits write in base ten, behind those that stand for n already
abbrev pub decimal_from : ℕ → List ℕ → ℕ
decimal_from n [] = n
decimal_from n (b ∷ bs) = decimal_from (n * 10 + (b - 48)) bs

abbrev pub decimal_value : List ℕ → ℕ
decimal_value = decimal_from 0

-- bytes that may be one word, whatever their number
pub data OneWord (bytes : List ℕ) : Type 0 where
  lettered : Lettered bytes → OneWord bytes
  digits : Digits bytes → OneWord bytes
  sign : (s : Sign) → bytes ≡ sign_text s → OneWord bytes

-- one word at the front of a text, as long as it can be
pub record Longest (bytes rest : List ℕ) : Type 0 where
  pub one : OneWord bytes
  pub no_longer : (b : ℕ) (more others : List ℕ) → rest ≡ b ∷ (more ++ others) → OneWord (bytes ++ b ∷ more) → ⊥

abbrev pub longest_name : ℕ
longest_name = 20

abbrev pub most_digits : ℕ
most_digits = 5

abbrev pub largest_integer : ℕ
largest_integer = 65535

-- a name is no keyword, in either case of its letters
abbrev pub NoKeyword : List ℕ → Type 0
NoKeyword bytes = (k : Keyword) → capitals bytes ≡ keyword_text k → ⊥

-- what the bytes of a right word say
abbrev pub Says : List ℕ → Kind → Type 0
Says bytes (Mark s) = bytes ≡ sign_text s
Says bytes (Reserved k) = capitals bytes ≡ keyword_text k
Says bytes (Name n) = Lettered bytes × NoKeyword bytes × (n ≡ length bytes) × (n ≤ longest_name)
Says bytes (Integer v) = Digits bytes × (v ≡ decimal_value bytes) × (length bytes ≤ most_digits) × (v ≤ largest_integer)

-- The token is the first word of the text, whose first byte is at the place p: separators, then the word, then the rest.
pub record FirstWord (p : ℕ) (text : List ℕ) (token : Token) : Type 0 where
  pub gap : List ℕ
  pub bytes : List ℕ
  pub rest : List ℕ
  pub parted : text ≡ gap ++ (bytes ++ rest)
  pub blank : Separators gap
  pub longest : Longest bytes rest
  pub says : Says bytes token.kind
  pub there : token.place ≡ p + length gap

-- the text, whose first byte is at the place p, begins with these words, and `rest`, whose first byte is at q, follows them
abbrev pub BeginsWith : ℕ → List ℕ → List Token → ℕ → List ℕ → Type 0
BeginsWith p text [] q rest = (q ≡ p) × (rest ≡ text)
BeginsWith p text (t ∷ ts) q rest = (w : FirstWord p text t) × BeginsWith (t.place + length w.bytes) w.rest ts q rest

-- the text has these words, and nothing else but separators
pub record Spelled (text : List ℕ) (tokens : List Token) : Type 0 where
  pub place : ℕ
  pub tail : List ℕ
  pub words : BeginsWith 0 text tokens place tail
  pub blank : Separators tail

-- what is wrong with the word that a text begins with, which stands at the place p: b is its first byte, `more` follows it
abbrev pub WrongWord : ℕ → List ℕ → ℕ → WordFault → Type 0
WrongWord b more p (NoWord q) = (q ≡ p) × (is_separator b ≡ false) × ((bytes rest : List ℕ) → b ∷ more ≡ bytes ++ rest → OneWord bytes → ⊥)
WrongWord b more p (LongName q) = (q ≡ p) × (bytes : List ℕ) × (rest : List ℕ) × (b ∷ more ≡ bytes ++ rest) × Longest bytes rest × Lettered bytes × (longest_name < length bytes)
WrongWord b more p (LargeInteger q) = (q ≡ p) × (bytes : List ℕ) × (rest : List ℕ) × (b ∷ more ≡ bytes ++ rest) × Longest bytes rest × Digits bytes × (length bytes ≤ most_digits → decimal_value bytes ≤ largest_integer → ⊥)

-- The first word of the text, whose first byte is at the place p, is wrong: separators, then the word.
pub record FirstWordWrong (p : ℕ) (text : List ℕ) (fault : WordFault) : Type 0 where
  pub gap : List ℕ
  pub first : ℕ
  pub more : List ℕ
  pub parted : text ≡ gap ++ first ∷ more
  pub blank : Separators gap
  pub wrong : WrongWord first more (p + length gap) fault

-- the first wrong word of a text, and the right words before it
pub record Misspelled (text : List ℕ) (fault : WordFault) : Type 0 where
  pub before : List Token
  pub place : ℕ
  pub tail : List ℕ
  pub words : BeginsWith 0 text before place tail
  pub wrong : FirstWordWrong place tail fault
