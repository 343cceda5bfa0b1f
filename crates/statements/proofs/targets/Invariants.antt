use Rattle.std.proofs.Common.{ℕ, ◌+◌, ◌≤◌, length}
use Rattle.words.specs.declared.token.Sign.TheVariants.{Comma}
use Rattle.grammar.specs.Rules.{mark, ref, ◌then◌}
use Rattle.grammar.specs.Promise.{deepest}
use Rattle.grammar.specs.Drafts.{row_lists, more_targets}
use Rattle.grammar.specs.Room.{RowsRoom}
use Rattle.cursor.proofs.Steps.{Goes}
use Rattle.statements.specs.Parts.{next_target_rows}
use Rattle.statements.proofs.targets.Given as goal

abbrev pub invariant-loop-cursor : goal.invariant-loop-cursor
invariant-loop-cursor l = record {
  goes : Goes deepest (mark Comma then ref) more_targets next_target_rows l.initial.cursor (row_lists l.initial.rows) l.cursor (row_lists l.rows);
  shorter : length l.cursor ≤ length l.initial.cursor;
  room : (limit slack : ℕ) → RowsRoom limit (length l.initial.cursor + slack) l.initial.rows → RowsRoom limit (length l.cursor + slack) l.rows;
}

abbrev pub decreases-loop-cursor : goal.decreases-loop-cursor
decreases-loop-cursor l = length l.cursor
