use Rattle.std.proofs.Common.{ℕ, ◌+◌, ◌≤◌, length}
use Rattle.words.specs.declared.token.Sign.TheVariants.{Semicolon}
use Rattle.grammar.specs.Rules.{mark, ◌then◌, conn}
use Rattle.grammar.specs.Drafts.{row_lists, conn_rows, more_conns}
use Rattle.grammar.specs.Room.{RowsRoom}
use Rattle.grammar.specs.Promise.{deepest}
use Rattle.cursor.proofs.Steps.{Goes}
use Rattle.parse.specs.Parts.{behind}
use Rattle.parse.proofs.connections.Given as goal

abbrev pub invariant-loop-cursor : goal.invariant-loop-cursor
invariant-loop-cursor l = record { went : Goes deepest (mark Semicolon then conn) more_conns (behind conn_rows) l.initial.cursor (row_lists l.initial.rows) l.cursor (row_lists l.rows); on : length l.cursor ≤ length l.initial.cursor; room : (limit slack : ℕ) → RowsRoom limit (length l.initial.cursor + slack) l.initial.rows → RowsRoom limit (length l.cursor + slack) l.rows }

abbrev pub decreases-loop-cursor : goal.decreases-loop-cursor
decreases-loop-cursor l = length l.cursor
