use Rattle.cells.specs.Fill.{Filled}
use Rattle.cells.proofs.table.fill.Given as goal

abbrev pub invariant-loop-i : goal.invariant-loop-i
invariant-loop-i g l = Filled g.L.Level g.C.Cell.letter l.cells l.leaves l.initial.work l.work l.i
