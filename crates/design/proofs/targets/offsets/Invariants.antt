use Rattle.control.specs.Databases.{rows_of}
use Rattle.design.proofs.Takings.{Taken}
use Rattle.design.proofs.targets.offsets.Given as goal

abbrev pub invariant-loop-index : goal.invariant-loop-index
invariant-loop-index l = Taken (rows_of l.rows) l.offsets l.taken l.index
