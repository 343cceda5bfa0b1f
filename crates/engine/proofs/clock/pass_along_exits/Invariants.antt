use Rattle.std.proofs.Common.{◌≡◌, length}
use Rattle.control.specs.Databases.{rows_of}
use Rattle.control.specs.Rules.{over_exits}
use Rattle.engine.specs.Inner.{StepsHave, ExitsCounted}
use Rattle.engine.proofs.clock.pass_along_exits.Given as goal

abbrev pub invariant-loop-i : goal.invariant-loop-i
invariant-loop-i g l =
    (length l.next ≡ 64)
    × (length l.counts ≡ 64)
    × ExitsCounted (rows_of l.design.rows) l.counts l.i
    × StepsHave g.L.Level (rows_of l.design.rows) l.work l.next (λ w s. over_exits (rows_of l.design.rows) w s l.i)
