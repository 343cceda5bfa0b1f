use Rattle.level.specs.Letters.{or_l, zero_l}
use Rattle.control.specs.Letters.{node_bit, joined}
use Rattle.control.specs.Levels.{lane, LevelIs}
use Rattle.evaluation.proofs.values.or_bits.Given as goal

abbrev pub invariant-loop-b : goal.invariant-loop-b
invariant-loop-b g l = LevelIs g.L.Level l.some (λ k. joined or_l zero_l (node_bit (lane g.L.Level l.work k) l.n) l.b)
