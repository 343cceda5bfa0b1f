use Rattle.control.specs.Databases.{rows_of}
use Rattle.design.proofs.Namings.{Linked}
use Rattle.design.proofs.targets.chains.Given as goal

abbrev pub invariant-loop-index : goal.invariant-loop-index
invariant-loop-index l = Linked (rows_of l.rows) l.firsts l.nexts l.index
