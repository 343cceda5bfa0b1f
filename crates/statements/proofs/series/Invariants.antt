use Rattle.std.proofs.Common.{ℕ, ◌+◌, ◌≤◌, length}
use Rattle.grammar.specs.Promise.{deepest}
use Rattle.grammar.specs.Drafts.{row_lists}
use Rattle.grammar.specs.Room.{RowsRoom}
use Rattle.statements.proofs.Turns.{Turns}
use Rattle.statements.proofs.series.Given as goal

abbrev pub invariant-loop-cursor : goal.invariant-loop-cursor
invariant-loop-cursor l = record {
  goes : Turns deepest l.step l.initial.cursor (row_lists l.initial.rows) l.cursor (row_lists l.rows);
  shorter : length l.cursor ≤ length l.initial.cursor;
  room : (limit slack : ℕ) → RowsRoom limit (length l.initial.cursor + slack) l.initial.rows → RowsRoom limit (length l.cursor + slack) l.rows;
}

abbrev pub decreases-loop-cursor : goal.decreases-loop-cursor
decreases-loop-cursor l = length l.cursor
