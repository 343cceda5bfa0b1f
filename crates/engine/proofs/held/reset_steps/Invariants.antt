use Rattle.control.specs.Databases.{rows_of}
use Rattle.engine.proofs.Opens.{Resetting}
use Rattle.engine.proofs.held.reset_steps.Given as goal

abbrev pub invariant-loop-i : goal.invariant-loop-i
invariant-loop-i g l = Resetting g.L.Level (rows_of l.design.rows) l.i l.initial.held l.held
