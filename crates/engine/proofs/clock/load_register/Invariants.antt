use Rattle.control.specs.Databases.{rows_of}
use Rattle.control.specs.Levels.{OnlyIn, HeldRow}
use Rattle.engine.specs.Inner.{Loads, BitsRight}
use Rattle.engine.proofs.clock.load_register.Given as goal

abbrev pub invariant-loop-b : goal.invariant-loop-b
invariant-loop-b g l =
    Loads g.L.Level (rows_of l.design.rows) l.work l.initial.held l.held (BitsRight (rows_of l.design.rows) l.symbol l.b)
    × OnlyIn (HeldRow (rows_of l.design.rows)) l.initial.held l.held
