use Rattle.control.specs.Databases.{rows_of}
use Rattle.control.specs.Levels.{OnlyIn, HeldRow}
use Rattle.engine.specs.Inner.{Loads, StepsRight}
use Rattle.engine.proofs.clock.load_steps.Given as goal

abbrev pub invariant-loop-i : goal.invariant-loop-i
invariant-loop-i g l =
    Loads g.L.Level (rows_of l.design.rows) l.work l.initial.held l.held (StepsRight (rows_of l.design.rows) l.i)
    × OnlyIn (HeldRow (rows_of l.design.rows)) l.initial.held l.held
