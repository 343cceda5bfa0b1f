use Rattle.control.specs.Databases.{rows_of}
use Rattle.lines.proofs.NameClasses.{Room}
use Rattle.lines.proofs.names.room_behind_line.Given as goal

-- what is left with all names is the room with the names that are left
abbrev pub invariant-loop-class : goal.invariant-loop-class
invariant-loop-class l = Room l.design.text.now (rows_of l.design.rows) l.room l.left l.class-index
