-- What is promised of the words of a text: whether they are a module's, and which word is the first wrong one. Assumes nothing.
-- It is said of each rule of the grammar, and then of the rule of a whole module.
use Rattle.std.specs.Prelude.{◌≡◌, ℕ, ◌≤◌, List, [], ◌∷◌, ◌++◌}
use Rattle.words.specs.declared.token.Sign.TheVariants.{LeftParen, Not, AndReduce, OrReduce, XorReduce}
use Rattle.words.specs.declared.token.Kind.{Kind}
use Rattle.words.specs.declared.token.Kind.TheVariants.{Mark}
use Rattle.words.specs.declared.token.Token.{Token}
use Rattle.grammar.specs.Rules.{Rule, unit}
use Rattle.grammar.specs.Trees.{Tree, words, depth}

-- how deep expressions may nest
abbrev pub deepest : ℕ
deepest = 16

-- the words are those of something under the rule that nests at most so deep
abbrev pub StandsWithin : ℕ → Rule → List Token → Type 0
StandsWithin n r ws = (t : Tree r) × (depth t ≤ n) × (words t ≡ ws)

-- something under the rule that nests at most so deep begins with these words
abbrev pub BeginsWithin : ℕ → Rule → List Token → Type 0
BeginsWithin n r us = (vs : List Token) × StandsWithin n r (us ++ vs)

-- Something under the rule has the words us and then the first of those that are left. Where none are left: its words are us.
abbrev pub GoesOn : Rule → List Token → List Token → Type 0
GoesOn r us [] = (n : ℕ) × StandsWithin n r us
GoesOn r us (w ∷ ws) = (n : ℕ) × BeginsWithin n r (us ++ w ∷ [])

-- the same, of what nests at most so deep
abbrev pub GoesOnWithin : ℕ → Rule → List Token → List Token → Type 0
GoesOnWithin n r us [] = StandsWithin n r us
GoesOnWithin n r us (w ∷ ws) = BeginsWithin n r (us ++ w ∷ [])

-- a sign with which a nesting opens: ( or a prefix sign, ^ &/ +/ @/
abbrev pub IsOpening : Kind → Type 0
IsOpening (Mark LeftParen) = Unit {0}
IsOpening (Mark Not) = Unit {0}
IsOpening (Mark AndReduce) = Unit {0}
IsOpening (Mark OrReduce) = Unit {0}
IsOpening (Mark XorReduce) = Unit {0}
IsOpening _ = ⊥

-- the first word is such a sign; at the end of the text there is none
abbrev pub OpensNesting : List Token → Type 0
OpensNesting [] = ⊥
OpensNesting (w ∷ ws) = IsOpening w.kind

-- The first wrong word, `rest` being it and what follows: something under the rule that nests at most n deep begins with
-- the words before it, and nothing under the rule begins with the words up to and including it. At the end of the text:
-- something begins with the words, and they are nothing whole.
pub record WrongAt (n : ℕ) (r : Rule) (ws rest : List Token) : Type 0 where
  pub before : List Token
  pub whole : ws ≡ before ++ rest
  pub right : BeginsWithin n r before
  pub stops : GoesOn r before rest → ⊥

-- The sign that opens one nesting too many, `rest` being it and what follows: it is ( or a prefix sign; something under the
-- rule that nests at most n deep begins with the words before it; what begins with the words up to and including it all
-- nests deeper, and there is some.
pub record DeepAt (n : ℕ) (r : Rule) (ws rest : List Token) : Type 0 where
  pub before : List Token
  pub whole : ws ≡ before ++ rest
  pub right : BeginsWithin n r before
  pub opens : OpensNesting rest
  pub stops : GoesOnWithin n r before rest → ⊥
  pub goes : GoesOn r before rest

-- some module that nests at most so deep begins with these words
abbrev pub Begins : ℕ → List Token → Type 0
Begins n us = BeginsWithin n unit us

-- some module goes on with the first of the words that are left; some that nests at most 16 deep does
abbrev pub Continues : List Token → List Token → Type 0
Continues us ws = GoesOn unit us ws

abbrev pub ContinuesWithin : List Token → List Token → Type 0
ContinuesWithin us ws = GoesOnWithin deepest unit us ws

-- The first wrong word of a text: some module begins with the words before it, and none with the words up to and
-- including it. At the end of the text: some module begins with the words, and they are none.
abbrev pub FirstWrong : List Token → List Token → Type 0
FirstWrong ws rest = WrongAt deepest unit ws rest

-- The sign that opens the seventeenth nesting: it is ( or a prefix sign; some module that nests at most 16 deep begins with
-- the words before it; modules that begin with the words up to and including it all nest deeper, and there are some.
abbrev pub FirstDeep : List Token → List Token → Type 0
FirstDeep ws rest = DeepAt deepest unit ws rest
