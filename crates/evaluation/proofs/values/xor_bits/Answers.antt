use Rattle.std.proofs.Common.{sym, ◌∙◌}
use Rattle.level.specs.Letters.{xor_l, zero_l}
use Rattle.control.specs.Letters.{node_bit}
use Rattle.control.specs.Levels.{lane}
use Rattle.evaluation.proofs.Rights.{join_none, join_more}
use Rattle.evaluation.proofs.values.xor_bits.Goals as goal

pub loop-b-init : goal.loop-b-init
loop-b-init g c = λ k h. c.zero-odd.ensures k h ∙ sym (join_none xor_l zero_l (node_bit (lane g.L.Level c.args.work.now k) c.args.n))

pub loop-b-preserved : goal.loop-b-preserved
loop-b-preserved g c = λ k h. join_more xor_l zero_l (node_bit (lane g.L.Level c.args.work.now k) c.args.n) c.loop-b.b (c.xor-odd.ensures k h) (c.loop-b.invariant k h) (c.node_bit.ensures k h)
