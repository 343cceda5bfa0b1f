use Rattle.std.proofs.Common.{◌≡◌, length}
use Rattle.control.specs.Databases.{rows_of}
use Rattle.engine.specs.Inner.{StepsHave, passed_first}
use Rattle.engine.proofs.clock.pass_along.Given as goal

abbrev pub invariant-loop-i : goal.invariant-loop-i
invariant-loop-i g l =
    (length l.next ≡ 64)
    × StepsHave g.L.Level (rows_of l.design.rows) l.work l.next (λ w s. passed_first (rows_of l.design.rows) w s l.i)
