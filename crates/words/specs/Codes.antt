-- Numbers that tell the signs from one another, and the keywords. Assumes nothing.
use Rattle.std.specs.Prelude.{ℕ}
use Rattle.words.specs.declared.token.Sign.{Sign}
use Rattle.words.specs.declared.token.Sign.TheVariants.{Dot, Colon, Semicolon, Comma, LeftParen, RightParen, LeftBracket, RightBracket, Slash, Backslash, Dollar, And, Or, Xor, Not, Star, Equal, Transfer, Branch, AndReduce, OrReduce, XorReduce}
use Rattle.words.specs.declared.token.Keyword.{Keyword}
use Rattle.words.specs.declared.token.Keyword.TheVariants.{Module, Inputs, Outputs, Memory, Buses, Body, Sequence, EndSequence, ControlReset, Null, DeadEnd, End}

abbrev pub sign_code : Sign → ℕ
sign_code Dot = 0
sign_code Colon = 1
sign_code Semicolon = 2
sign_code Comma = 3
sign_code LeftParen = 4
sign_code RightParen = 5
sign_code LeftBracket = 6
sign_code RightBracket = 7
sign_code Slash = 8
sign_code Backslash = 9
sign_code Dollar = 10
sign_code And = 11
sign_code Or = 12
sign_code Xor = 13
sign_code Not = 14
sign_code Star = 15
sign_code Equal = 16
sign_code Transfer = 17
sign_code Branch = 18
sign_code AndReduce = 19
sign_code OrReduce = 20
sign_code XorReduce = 21

abbrev pub keyword_code : Keyword → ℕ
keyword_code Module = 0
keyword_code Inputs = 1
keyword_code Outputs = 2
keyword_code Memory = 3
keyword_code Buses = 4
keyword_code Body = 5
keyword_code Sequence = 6
keyword_code EndSequence = 7
keyword_code ControlReset = 8
keyword_code Null = 9
keyword_code DeadEnd = 10
keyword_code End = 11
