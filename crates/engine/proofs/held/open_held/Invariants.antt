use Rattle.level.specs.declared.letter.Letter.TheVariants.{Zero}
use Rattle.control.specs.Databases.{rows_of}
use Rattle.control.specs.Points.{input_bits}
use Rattle.control.specs.Levels.{lane}
use Rattle.engine.proofs.Writes.{Written}
use Rattle.engine.proofs.held.open_held.Given as goal

abbrev pub invariant-loop-p : goal.invariant-loop-p
invariant-loop-p g l = Written g.L.Level 0 (λ k i. Zero) l.p l.initial.held l.held

abbrev pub invariant-loop-i : goal.invariant-loop-i
invariant-loop-i g l = Written g.L.Level (input_bits (rows_of l.design.rows)) (λ k i. lane g.L.Level l.starts k i) l.i l.initial.held l.held
