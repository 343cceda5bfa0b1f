-- What stands under a rule: its trees, their words, and how deep they nest. Assumes nothing.
use Rattle.std.specs.Prelude.{ℕ, suc, max, List, [], ◌∷◌, ◌++◌}
use Rattle.words.specs.declared.token.Sign.{Sign}
use Rattle.words.specs.declared.token.Keyword.{Keyword}
use Rattle.words.specs.declared.token.Kind.{Kind}
use Rattle.words.specs.declared.token.Kind.TheVariants.{Reserved, Name, Integer, Mark}
use Rattle.words.specs.declared.token.Token.{Token}
use Rattle.grammar.specs.Rules.{Part, Rule, mark, keyword, name, integer, ◌then◌, maybe, many, either, fork, series, part, inside}

-- a word of that kind at that place of the text
abbrev pub word_of : Kind → ℕ → Token
word_of k p = record { kind = k; place = p }

-- what stands under a rule, with the place of each word, the length of each name and the value of each integer
pub data Tree : Rule → Type 0 where
  mark_at : {s : Sign} → ℕ → Tree (mark s)
  keyword_at : {k : Keyword} → ℕ → Tree (keyword k)
  name_at : ℕ → ℕ → Tree name
  integer_at : ℕ → ℕ → Tree integer
  both : {a b : Rule} → Tree a → Tree b → Tree (a then b)
  none : {a : Rule} → Tree (maybe a)
  some : {a : Rule} → Tree a → Tree (maybe a)
  end : {a : Rule} → Tree (many a)
  more : {a : Rule} → Tree a → Tree (many a) → Tree (many a)
  left : {a b : Rule} → Tree a → Tree (either a b)
  right : {a b : Rule} → Tree b → Tree (either a b)
  one : {a b : Rule} → Tree a → Tree (fork a b)
  other : {a b : Rule} → Tree b → Tree (fork a b)
  last : {a b : Rule} {s : Sign} → Tree a → Tree (series a s b)
  closing : {a b : Rule} {s : Sign} → Tree b → Tree (series a s b)
  next : {a b : Rule} {s : Sign} → Tree a → ℕ → Tree (series a s b) → Tree (series a s b)
  nested : (p : Part) → Tree (inside p) → Tree (part p)

-- the words of a tree, in the order of the text
unfoldable pub words : {r : Rule} → Tree r → List Token
words (mark_at {s = s} p) = word_of (Mark s) p ∷ []
words (keyword_at {k = k} p) = word_of (Reserved k) p ∷ []
words (name_at p n) = word_of (Name n) p ∷ []
words (integer_at p v) = word_of (Integer v) p ∷ []
words (both t u) = words t ++ words u
words none = []
words (some t) = words t
words end = []
words (more t u) = words t ++ words u
words (left t) = words t
words (right t) = words t
words (one t) = words t
words (other t) = words t
words (last t) = words t
words (closing t) = words t
words (next {s = s} t p u) = words t ++ word_of (Mark s) p ∷ words u
words (nested p t) = words t

-- how deep a tree nests
unfoldable pub depth : {r : Rule} → Tree r → ℕ
depth (mark_at p) = 0
depth (keyword_at p) = 0
depth (name_at p n) = 0
depth (integer_at p v) = 0
depth (both t u) = max (depth t) (depth u)
depth none = 0
depth (some t) = depth t
depth end = 0
depth (more t u) = max (depth t) (depth u)
depth (left t) = depth t
depth (right t) = depth t
depth (one t) = depth t
depth (other t) = depth t
depth (last t) = depth t
depth (closing t) = depth t
depth (next t p u) = max (depth t) (depth u)
depth (nested p t) = suc (depth t)
