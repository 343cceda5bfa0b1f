-- How the integers of a list come one behind the other. Assumes nothing.
use Rattle.std.proofs.Common.{◌≡◌, List, [], ◌∷◌, ◌++◌, Some, refl}
use Rattle.words.specs.declared.token.Sign.TheVariants.{Comma}
use Rattle.grammar.specs.Rules.{mark, integer, ◌then◌, many}
use Rattle.grammar.specs.Trees.{Tree, mark_at, both, more}
use Rattle.grammar.specs.declared.draft.Listed.{Listed}
use Rattle.grammar.specs.Drafts.{listed_at, more_listed}
use Rattle.cursor.specs.Told.{mark_place}

-- an integer behind a comma
abbrev pub one_listed : Tree (mark Comma then integer) → List Listed → List Listed
one_listed (both m i) xs = xs ++ listed_at (Some (mark_place m)) i ∷ []

pub one_more_listed : (t : Tree (mark Comma then integer)) (u : Tree (many (mark Comma then integer))) (xs : List Listed) → more_listed (more t u) xs ≡ more_listed u (one_listed t xs)
one_more_listed (both (mark_at p) i) u xs = refl
