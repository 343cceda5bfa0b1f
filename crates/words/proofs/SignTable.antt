-- The sign that a text begins with, as the reader looks for it: of two bytes, or else of one. Assumes nothing.
use Rattle.std.proofs.Common.{ℕ, cond, ◌==◌, ◌&&◌, List, [], ◌∷◌, length, Option, Some, None}
use Rattle.words.specs.declared.token.Sign.{Sign}
use Rattle.words.specs.declared.token.Sign.TheVariants.{Dot, Colon, Semicolon, Comma, LeftParen, RightParen, LeftBracket, RightBracket, Slash, Backslash, Dollar, And, Or, Xor, Not, Star, Equal, Transfer, Branch, AndReduce, OrReduce, XorReduce}
use Rattle.words.specs.Spelling.{sign_text}

-- the sign of these two bytes
abbrev pub long_sign : ℕ → ℕ → Option Sign
long_sign a b = cond (a == 60 && b == 61) (Some Transfer)
    (cond (a == 61 && b == 62) (Some Branch)
    (cond (a == 38 && b == 47) (Some AndReduce)
    (cond (a == 43 && b == 47) (Some OrReduce)
    (cond (a == 64 && b == 47) (Some XorReduce) None))))

-- the sign of this byte alone
abbrev pub short_sign : ℕ → Option Sign
short_sign a = cond (a == 46) (Some Dot)
    (cond (a == 58) (Some Colon)
    (cond (a == 59) (Some Semicolon)
    (cond (a == 44) (Some Comma)
    (cond (a == 40) (Some LeftParen)
    (cond (a == 41) (Some RightParen)
    (cond (a == 91) (Some LeftBracket)
    (cond (a == 93) (Some RightBracket)
    (cond (a == 47) (Some Slash)
    (cond (a == 92) (Some Backslash)
    (cond (a == 36) (Some Dollar)
    (cond (a == 38) (Some And)
    (cond (a == 43) (Some Or)
    (cond (a == 64) (Some Xor)
    (cond (a == 94) (Some Not)
    (cond (a == 42) (Some Star)
    (cond (a == 61) (Some Equal) None))))))))))))))))

-- a sign, if there is one, and what follows it
abbrev pub followed : Option Sign → List ℕ → Option (Sign × List ℕ)
followed None rest = None
followed (Some s) rest = Some (s, rest)

abbrev pub short_at : List ℕ → Option (Sign × List ℕ)
short_at [] = None
short_at (a ∷ rest) = followed (short_sign a) rest

abbrev pub or_short : Option (Sign × List ℕ) → List ℕ → Option (Sign × List ℕ)
or_short None text = short_at text
or_short (Some x) text = Some x

-- the longest sign that the text begins with, and what follows it
abbrev pub sign_at : List ℕ → Option (Sign × List ℕ)
sign_at [] = None
sign_at (a ∷ []) = short_at (a ∷ [])
sign_at (a ∷ b ∷ rest) = or_short (followed (long_sign a b) rest) (a ∷ b ∷ rest)

-- how many bytes the sign has, if there is one
abbrev pub sign_len : Option (Sign × List ℕ) → ℕ
sign_len None = 0
sign_len (Some x) = length (sign_text x.0)
