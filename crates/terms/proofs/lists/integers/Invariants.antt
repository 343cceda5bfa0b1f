use Rattle.std.proofs.Common.{ℕ, ◌+◌, ◌≤◌, length, vec_items}
use Rattle.words.specs.declared.token.Sign.TheVariants.{Comma}
use Rattle.grammar.specs.Rules.{mark, integer, ◌then◌}
use Rattle.grammar.specs.Drafts.{more_listed}
use Rattle.grammar.specs.Room.{HasRoom}
use Rattle.cursor.proofs.Steps.{Goes}
use Rattle.terms.proofs.Commas.{one_listed}
use Rattle.terms.proofs.lists.integers.Given as goal

abbrev pub invariant-loop-comma : goal.invariant-loop-comma
invariant-loop-comma l = record {
  goes : (n : ℕ) → Goes n (mark Comma then integer) more_listed one_listed l.initial.cursor (vec_items l.initial.list) l.cursor (vec_items l.list);
  behind : length l.cursor ≤ length l.initial.cursor;
  room : (limit slack : ℕ) → HasRoom limit (length l.initial.cursor + slack) l.initial.list → HasRoom limit (length l.cursor + slack) l.list;
}

abbrev pub decreases-loop-comma : goal.decreases-loop-comma
decreases-loop-comma l = length l.cursor
