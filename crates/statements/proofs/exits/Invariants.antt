use Rattle.std.proofs.Common.{ℕ, ◌+◌, ◌≤◌, length}
use Rattle.words.specs.declared.token.Sign.TheVariants.{Comma}
use Rattle.grammar.specs.Rules.{mark, integer, ◌then◌}
use Rattle.grammar.specs.Promise.{deepest}
use Rattle.grammar.specs.Drafts.{row_lists}
use Rattle.grammar.specs.Room.{RowsRoom}
use Rattle.cursor.proofs.Steps.{Goes}
use Rattle.statements.specs.Parts.{next_exit_rows}
use Rattle.statements.proofs.Lists.{more_exits}
use Rattle.statements.proofs.exits.Given as goal

abbrev pub invariant-loop-cursor : goal.invariant-loop-cursor
invariant-loop-cursor l = record {
  goes : Goes deepest (mark Comma then integer) (more_exits l.step) (next_exit_rows l.step) l.initial.cursor (row_lists l.initial.rows) l.cursor (row_lists l.rows);
  shorter : length l.cursor ≤ length l.initial.cursor;
  room : (limit slack : ℕ) → RowsRoom limit (length l.initial.cursor + slack) l.initial.rows → RowsRoom limit (length l.cursor + slack) l.rows;
}

abbrev pub decreases-loop-cursor : goal.decreases-loop-cursor
decreases-loop-cursor l = length l.cursor
