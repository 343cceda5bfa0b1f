-- The databases of the worked texts, computed from their bytes. Assumes nothing.
use Rattle.std.proofs.Common.{ℕ, List, [], ◌∷◌, refl, arith}
use Rattle.words.specs.declared.token.Sign.TheVariants.{Dot, Colon, Semicolon, Comma, LeftParen, RightParen, LeftBracket, RightBracket, Slash, Backslash, Dollar, And, Not, Star, Equal, Transfer, Branch, AndReduce}
use Rattle.words.specs.declared.token.Keyword.TheVariants.{Module, Inputs, Outputs, Memory, Body, Sequence, EndSequence, ControlReset, End}
use Rattle.words.specs.declared.token.Kind.{Kind}
use Rattle.words.specs.declared.token.Kind.TheVariants.{Reserved, Name, Integer, Mark}
use Rattle.words.specs.declared.token.Token.{Token}
use Rattle.grammar.specs.Reading.{read, read_with, read_part, read_many, read_series}
use Rattle.grammar.specs.Drafts.{draft_of}
use Rattle.database.specs.Saying.{database_of}
use Rattle.text.specs.Promise.{Says}
use Rattle.text.specs.Worked.{pace, pace_database, constants, constants_database, strings, strings_database, Worked}
use Rattle.text.proofs.Computed.{says}

abbrev token : Kind → ℕ → Token
token kind place = record { kind = kind; place = place }

abbrev pace_tokens : List Token
pace_tokens =
    token (Reserved Module) 0 ∷ token (Mark Colon) 6 ∷ token (Name 4) 8 ∷ token (Mark Dot) 12 ∷ token (Reserved Inputs) 14
    ∷ token (Mark Colon) 20 ∷ token (Name 2) 22 ∷ token (Mark Semicolon) 24 ∷ token (Name 1) 26 ∷ token (Mark LeftBracket) 27
    ∷ token (Integer 2) 28 ∷ token (Mark RightBracket) 29 ∷ token (Mark Dot) 30 ∷ token (Reserved Outputs) 32
    ∷ token (Mark Colon) 39 ∷ token (Name 1) 41 ∷ token (Mark LeftBracket) 42 ∷ token (Integer 2) 43
    ∷ token (Mark RightBracket) 44 ∷ token (Mark Semicolon) 45 ∷ token (Name 3) 47 ∷ token (Mark Dot) 50
    ∷ token (Reserved Memory) 52 ∷ token (Mark Colon) 58 ∷ token (Name 1) 60 ∷ token (Mark LeftBracket) 61
    ∷ token (Integer 2) 62 ∷ token (Mark RightBracket) 63 ∷ token (Mark Dot) 64 ∷ token (Reserved Body) 66
    ∷ token (Reserved Sequence) 71 ∷ token (Mark Colon) 79 ∷ token (Name 3) 81 ∷ token (Mark Dot) 84 ∷ token (Integer 1) 86
    ∷ token (Name 1) 88 ∷ token (Mark Star) 90 ∷ token (Mark LeftParen) 92 ∷ token (Name 2) 93 ∷ token (Mark RightParen) 95
    ∷ token (Mark Transfer) 97 ∷ token (Name 1) 100 ∷ token (Mark Semicolon) 101 ∷ token (Mark Branch) 103
    ∷ token (Mark LeftParen) 106 ∷ token (Mark Not) 107 ∷ token (Name 2) 108 ∷ token (Mark RightParen) 110
    ∷ token (Mark Slash) 111 ∷ token (Mark LeftParen) 112 ∷ token (Integer 1) 113 ∷ token (Mark RightParen) 114
    ∷ token (Mark Dot) 115 ∷ token (Integer 2) 117 ∷ token (Name 1) 119 ∷ token (Mark Equal) 121 ∷ token (Name 1) 123
    ∷ token (Mark Semicolon) 124 ∷ token (Name 3) 126 ∷ token (Mark Equal) 130 ∷ token (Mark AndReduce) 132 ∷ token (Name 1) 135
    ∷ token (Mark Semicolon) 136 ∷ token (Mark Branch) 138 ∷ token (Mark LeftParen) 141 ∷ token (Integer 1) 142
    ∷ token (Mark RightParen) 143 ∷ token (Mark Dot) 144 ∷ token (Reserved EndSequence) 146 ∷ token (Reserved ControlReset) 158
    ∷ token (Mark LeftParen) 170 ∷ token (Integer 1) 171 ∷ token (Mark RightParen) 172 ∷ token (Mark Dot) 173
    ∷ token (Reserved End) 175 ∷ token (Mark Dot) 178 ∷ []

abbrev constants_tokens : List Token
constants_tokens =
    token (Reserved Module) 0 ∷ token (Mark Colon) 6 ∷ token (Name 1) 8 ∷ token (Mark Dot) 9 ∷ token (Reserved Outputs) 11
    ∷ token (Mark Colon) 18 ∷ token (Name 1) 20 ∷ token (Mark LeftBracket) 21 ∷ token (Integer 5) 22
    ∷ token (Mark RightBracket) 23 ∷ token (Mark Semicolon) 24 ∷ token (Name 1) 26 ∷ token (Mark LeftBracket) 27
    ∷ token (Integer 2) 28 ∷ token (Mark RightBracket) 29 ∷ token (Mark Dot) 30 ∷ token (Reserved Body) 32
    ∷ token (Reserved Sequence) 37 ∷ token (Mark Colon) 45 ∷ token (Name 3) 47 ∷ token (Mark Dot) 50 ∷ token (Integer 1) 52
    ∷ token (Name 1) 54 ∷ token (Mark Equal) 56 ∷ token (Integer 5) 58 ∷ token (Mark Dollar) 59 ∷ token (Integer 3) 60
    ∷ token (Mark Semicolon) 61 ∷ token (Name 1) 63 ∷ token (Mark Equal) 65 ∷ token (Integer 2) 67 ∷ token (Mark Dollar) 68
    ∷ token (Integer 7) 69 ∷ token (Mark Semicolon) 70 ∷ token (Mark Branch) 72 ∷ token (Mark LeftParen) 75
    ∷ token (Integer 1) 76 ∷ token (Mark RightParen) 77 ∷ token (Mark Dot) 78 ∷ token (Reserved EndSequence) 80
    ∷ token (Reserved ControlReset) 92 ∷ token (Mark LeftParen) 104 ∷ token (Integer 1) 105 ∷ token (Mark RightParen) 106
    ∷ token (Mark Dot) 107 ∷ token (Reserved End) 109 ∷ token (Mark Dot) 112 ∷ []

abbrev strings_tokens : List Token
strings_tokens =
    token (Reserved Module) 0 ∷ token (Mark Colon) 6 ∷ token (Name 1) 8 ∷ token (Mark Dot) 9 ∷ token (Reserved Outputs) 11
    ∷ token (Mark Colon) 18 ∷ token (Name 1) 20 ∷ token (Mark LeftBracket) 21 ∷ token (Integer 2) 22
    ∷ token (Mark RightBracket) 23 ∷ token (Mark Semicolon) 24 ∷ token (Name 1) 26 ∷ token (Mark LeftBracket) 27
    ∷ token (Integer 3) 28 ∷ token (Mark RightBracket) 29 ∷ token (Mark Dot) 30 ∷ token (Reserved Body) 32
    ∷ token (Reserved Sequence) 37 ∷ token (Mark Colon) 45 ∷ token (Name 3) 47 ∷ token (Mark Dot) 50 ∷ token (Integer 1) 52
    ∷ token (Name 1) 54 ∷ token (Mark Equal) 56 ∷ token (Mark Backslash) 58 ∷ token (Integer 1) 59 ∷ token (Mark Comma) 60
    ∷ token (Integer 1) 61 ∷ token (Mark Backslash) 62 ∷ token (Mark And) 64 ∷ token (Mark Backslash) 66 ∷ token (Integer 0) 67
    ∷ token (Mark Backslash) 68 ∷ token (Mark Semicolon) 69 ∷ token (Name 1) 71 ∷ token (Mark Equal) 73 ∷ token (Mark Not) 75
    ∷ token (Mark Backslash) 76 ∷ token (Integer 1) 77 ∷ token (Mark Comma) 78 ∷ token (Integer 0) 79
    ∷ token (Mark Backslash) 80 ∷ token (Mark Comma) 81 ∷ token (Mark Backslash) 82 ∷ token (Integer 1) 83
    ∷ token (Mark Backslash) 84 ∷ token (Mark Semicolon) 85 ∷ token (Mark Branch) 87 ∷ token (Mark LeftParen) 90
    ∷ token (Integer 1) 91 ∷ token (Mark RightParen) 92 ∷ token (Mark Dot) 93 ∷ token (Reserved EndSequence) 95
    ∷ token (Reserved ControlReset) 107 ∷ token (Mark LeftParen) 119 ∷ token (Integer 1) 120 ∷ token (Mark RightParen) 121
    ∷ token (Mark Dot) 122 ∷ token (Reserved End) 124 ∷ token (Mark Dot) 127 ∷ []

pace_says : Says pace pace_database
unfolding read read_with read_part read_many read_series draft_of database_of
pace_says = says 90 pace pace_tokens pace_database (omega arith) refl (refl, refl)

constants_says : Says constants constants_database
unfolding read read_with read_part read_many read_series draft_of database_of
constants_says = says 90 constants constants_tokens constants_database (omega arith) refl (refl, refl)

strings_says : Says strings strings_database
unfolding read read_with read_part read_many read_series draft_of database_of
strings_says = says 90 strings strings_tokens strings_database (omega arith) refl (refl, refl)

pub worked : Worked
worked = ((pace_says, (constants_says, (strings_says, tt))), (refl, refl, refl, refl))
