use Rattle.std.proofs.Common.{◌+◌, length}
use Rattle.control.specs.Databases.{rows_of}
use Rattle.lines.specs.Cursors.{spaced_behind}
use Rattle.lines.specs.Lines.{names_of}
use Rattle.lines.specs.NameLines.{names_behind, written_at}
use Rattle.lines.proofs.NameWrites.{Writing}
use Rattle.lines.proofs.names.put_names.Given as goal

-- the names that are left are still to be written
abbrev pub invariant-loop-index : goal.invariant-loop-index
invariant-loop-index l =
    Writing l.output l.end (spaced_behind (names_behind l.design.text.now (rows_of l.design.rows) l.class l.index))
    (written_at l.initial.output l.at (spaced_behind (names_of l.design.text.now (rows_of l.design.rows) l.class)))
    (l.at + length (spaced_behind (names_of l.design.text.now (rows_of l.design.rows) l.class)))
    (length l.initial.output)
