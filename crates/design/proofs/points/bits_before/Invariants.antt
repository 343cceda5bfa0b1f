use Rattle.std.proofs.Common.{◌≡◌}
use Rattle.control.specs.Databases.{rows_of}
use Rattle.design.specs.Inner.{before}
use Rattle.design.proofs.BitCounts.{picked}
use Rattle.design.proofs.points.bits_before.Given as goal

abbrev pub invariant-loop-index : goal.invariant-loop-index
invariant-loop-index l = l.bits ≡ picked (rows_of l.rows) (λ z. before (rows_of l.rows) l.place l.number z) l.index
