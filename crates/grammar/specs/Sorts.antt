-- Words by sort, and which sorts may begin a rule. Assumes nothing.
use Rattle.std.specs.Prelude.{ℕ, ◌+◌, Bool, true, false, ◌&&◌, ◌||◌, List, [], ◌∷◌, ◌==◌}
use Rattle.words.specs.Codes.{sign_code, keyword_code}
use Rattle.words.specs.declared.token.Sign.{Sign}
use Rattle.words.specs.declared.token.Sign.TheVariants.{LeftParen, Not, AndReduce, OrReduce, XorReduce}
use Rattle.words.specs.declared.token.Keyword.{Keyword}
use Rattle.words.specs.declared.token.Kind.{Kind}
use Rattle.words.specs.declared.token.Kind.TheVariants.{Reserved, Name, Integer, Mark}
use Rattle.words.specs.declared.token.Token.{Token}
use Rattle.grammar.specs.Rules.{Part, group, signed, Rule, mark, keyword, name, integer, ◌then◌, maybe, many, either, fork, series, part}

-- the sorts: 0 a name, 1 an integer, from 2 on the capital words, from 14 on the signs; 36 stands for the end of the text
abbrev pub name_sort : ℕ
name_sort = 0

abbrev pub integer_sort : ℕ
integer_sort = 1

abbrev pub keyword_sort : Keyword → ℕ
keyword_sort k = 2 + keyword_code k

abbrev pub sign_sort : Sign → ℕ
sign_sort s = 14 + sign_code s

abbrev pub end_sort : ℕ
end_sort = 36

abbrev pub kind_sort : Kind → ℕ
kind_sort (Name n) = name_sort
kind_sort (Integer v) = integer_sort
kind_sort (Reserved k) = keyword_sort k
kind_sort (Mark s) = sign_sort s

-- the sort of the first word
abbrev pub sort : List Token → ℕ
sort [] = end_sort
sort (w ∷ ws) = kind_sort w.kind

-- the sort of the second word
abbrev pub second : List Token → ℕ
second [] = end_sort
second (w ∷ ws) = sort ws

-- whether nothing may stand under the rule
abbrev pub nullable : Rule → Bool
nullable (mark s) = false
nullable (keyword k) = false
nullable name = false
nullable integer = false
nullable (a then b) = nullable a && nullable b
nullable (maybe a) = true
nullable (many a) = true
nullable (either a b) = nullable a || nullable b
nullable (fork a b) = nullable a || nullable b
nullable (series a s b) = nullable a || nullable b
nullable (part p) = false

-- the sorts with which a nesting part begins
abbrev pub opens : Part → ℕ → Bool
opens group n = n == sign_sort LeftParen
opens signed n = n == sign_sort Not || n == sign_sort AndReduce || n == sign_sort OrReduce || n == sign_sort XorReduce

-- the sorts with which something under the rule may begin
abbrev pub starts : Rule → ℕ → Bool
starts (mark s) n = n == sign_sort s
starts (keyword k) n = n == keyword_sort k
starts name n = n == name_sort
starts integer n = n == integer_sort
starts (a then b) n = starts a n || (nullable a && starts b n)
starts (maybe a) n = starts a n
starts (many a) n = starts a n
starts (either a b) n = starts a n || starts b n
starts (fork a b) n = starts a n || starts b n
starts (series a s b) n = starts a n || starts b n
starts (part p) n = opens p n
