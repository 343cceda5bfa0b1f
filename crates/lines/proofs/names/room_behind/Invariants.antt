use Rattle.std.proofs.Common.{◌≡◌, ◌+◌, length}
use Rattle.control.specs.Databases.{rows_of}
use Rattle.lines.specs.Cursors.{spaced_behind}
use Rattle.lines.specs.Lines.{names_of}
use Rattle.lines.specs.NameLines.{names_behind}
use Rattle.lines.proofs.names.room_behind.Given as goal

-- what is left and all names are the room and the names that are left
abbrev pub invariant-loop-index : goal.invariant-loop-index
invariant-loop-index l =
    l.left + length (spaced_behind (names_of l.design.text.now (rows_of l.design.rows) l.class)) ≡ l.room + length (spaced_behind (names_behind l.design.text.now (rows_of l.design.rows) l.class l.index))
