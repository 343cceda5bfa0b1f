use Rattle.std.proofs.Common.{ℕ, ◌+◌, ◌≤◌, length}
use Rattle.words.specs.declared.token.Sign.TheVariants.{Semicolon}
use Rattle.grammar.specs.Rules.{mark, ◌then◌, item}
use Rattle.grammar.specs.Drafts.{row_lists, more_items}
use Rattle.grammar.specs.Room.{RowsRoom}
use Rattle.grammar.specs.Promise.{deepest}
use Rattle.cursor.proofs.Steps.{Goes}
use Rattle.parse.specs.Parts.{item_row, behind}
use Rattle.parse.proofs.items.Given as goal

abbrev pub invariant-loop-class : goal.invariant-loop-class
invariant-loop-class l = record { went : Goes deepest (mark Semicolon then item) (more_items l.class) (behind (item_row l.class)) l.initial.cursor (row_lists l.initial.rows) l.cursor (row_lists l.rows); on : length l.cursor ≤ length l.initial.cursor; room : (limit slack : ℕ) → RowsRoom limit (length l.initial.cursor + slack) l.initial.rows → RowsRoom limit (length l.cursor + slack) l.rows }

abbrev pub decreases-loop-class : goal.decreases-loop-class
decreases-loop-class l = length l.cursor
