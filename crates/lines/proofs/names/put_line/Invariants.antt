use Rattle.control.specs.Databases.{rows_of}
use Rattle.lines.proofs.NameClasses.{State, names_left}
use Rattle.lines.proofs.names.put_line.Given as goal

-- the names that are left, and STEPS, are still to be written
abbrev pub invariant-loop-class : goal.invariant-loop-class
invariant-loop-class l =
    State l.design.text.now (rows_of l.design.rows) l.initial.output l.output l.end (names_left l.design.text.now (rows_of l.design.rows) l.class-index)
