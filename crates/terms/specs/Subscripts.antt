-- The parts of a reference. Assumes nothing.
use Rattle.std.specs.Prelude.{ℕ, Option, Some, None}
use Rattle.words.specs.declared.token.Sign.TheVariants.{Colon, LeftBracket, RightBracket}
use Rattle.grammar.specs.declared.draft.Subscript.{Subscript}
use Rattle.grammar.specs.Rules.{Rule, mark, integer, ◌then◌, maybe}
use Rattle.grammar.specs.Trees.{Tree, both, none, some}
use Rattle.grammar.specs.Drafts.{number_of, subscript_of}

-- [first] or [first : last]
abbrev pub subscript_rule : Rule
subscript_rule = mark LeftBracket then integer then maybe (mark Colon then integer) then mark RightBracket

-- the last: the first, where no other is written
abbrev pub last_of : Tree (maybe (mark Colon then integer)) → ℕ → ℕ
last_of none first = first
last_of (some (both c i)) first = (number_of i).value

-- the subscript, where there is one
abbrev pub maybe_subscript : Tree (maybe subscript_rule) → Option Subscript
maybe_subscript none = None
maybe_subscript (some s) = Some (subscript_of s)
