-- What is promised of reading a rule and a whole text of words, and that words say what stands under a rule. Assumes nothing.
use Rattle.std.specs.Prelude.{◌≡◌, ℕ, ◌≤◌, List, [], ◌∷◌, ◌++◌}
use Rattle.words.specs.declared.token.Token.{Token}
use Rattle.grammar.specs.Rules.{Rule, integers, ref, expr, conn, step, unit}
use Rattle.grammar.specs.Trees.{Tree, words, depth}
use Rattle.grammar.specs.Reading.{Out, got, wrong, deep, read}
use Rattle.grammar.specs.Promise.{deepest, GoesOn, WrongAt, DeepAt, FirstWrong, FirstDeep}

-- What reading a rule from the front of a list of words comes to, where it may nest so deep. Where words are left behind
-- what is read, nothing under the rule goes on with the first of them.
abbrev pub Front : ℕ → (r : Rule) → List Token → Out (Tree r) → Type 0
Front n r ws (got t []) = (words t ≡ ws) × (depth t ≤ n)
Front n r ws (got t (w ∷ rest)) = (words t ++ w ∷ rest ≡ ws) × (depth t ≤ n) × (GoesOn r (words t) (w ∷ rest) → ⊥)
Front n r ws (wrong rest) = WrongAt n r ws rest
Front n r ws (deep rest) = DeepAt n r ws rest

-- what reading a whole text of words comes to
abbrev pub Whole : List Token → Out (Tree unit) → Type 0
Whole ws (got t []) = (words t ≡ ws) × (depth t ≤ deepest)
Whole ws (got t (w ∷ rest)) = FirstWrong ws (w ∷ rest)
Whole ws (wrong rest) = FirstWrong ws rest
Whole ws (deep rest) = FirstDeep ws rest

-- the same words are the words of one tree only
abbrev pub Unambiguous : Rule → Type 0
Unambiguous r = (t u : Tree r) → words t ≡ words u → t ≡ u

-- of a single rule
abbrev pub RuleLaws : Rule → Type 0
RuleLaws r = ((n : ℕ) (ws : List Token) → Front n r ws (read n r ws)) × Unambiguous r

abbrev pub GrammarLaws : Type 0
GrammarLaws =
    ((ws : List Token) → Whole ws (read deepest unit ws)) × RuleLaws unit ×
    RuleLaws step × RuleLaws conn × RuleLaws expr × RuleLaws ref × RuleLaws integers
