use Rattle.std.proofs.Common.{◌-◌}
use Rattle.control.specs.Databases.{rows_of}
use Rattle.control.specs.Levels.{OnlyIn, HeldRow}
use Rattle.engine.specs.Inner.{Loads, RegistersRight}
use Rattle.engine.proofs.clock.load_registers.Given as goal

abbrev pub invariant-loop-symbol : goal.invariant-loop-symbol
invariant-loop-symbol g l =
    Loads g.L.Level (rows_of l.design.rows) l.work l.initial.held l.held (RegistersRight (rows_of l.design.rows) (l.symbol - 1))
    × OnlyIn (HeldRow (rows_of l.design.rows)) l.initial.held l.held
