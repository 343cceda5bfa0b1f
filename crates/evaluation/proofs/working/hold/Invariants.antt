use Rattle.std.proofs.Common.{◌≡◌, ℕ, ◌+◌, ◌<◌}
use Rattle.control.specs.Databases.{rows_of}
use Rattle.control.specs.Points.{all_bits}
use Rattle.control.specs.Letters.{Letters}
use Rattle.control.specs.Rules.{Settled}
use Rattle.control.specs.Levels.{lane, InEachLane, OnlyIn, WorkRow}
use Rattle.evaluation.specs.Inner.{NowRight}
use Rattle.evaluation.proofs.working.hold.Given as goal

abbrev pub invariant-loop-p : goal.invariant-loop-p
invariant-loop-p g l = record {
  fills : InEachLane g.L.Level (λ k. (w : Letters) → Settled (rows_of l.design.rows) (lane g.L.Level l.held k) w →
      NowRight w (lane g.L.Level l.initial.work k) (lane g.L.Level l.work k) (λ w xs. (p : ℕ) → p < l.p → xs p ≡ w p));
  kept : OnlyIn (WorkRow (rows_of l.design.rows)) l.initial.work l.work;
}

abbrev pub invariant-loop-i : goal.invariant-loop-i
invariant-loop-i g l = record {
  fills : InEachLane g.L.Level (λ k. (w : Letters) → Settled (rows_of l.design.rows) (lane g.L.Level l.held k) w →
      NowRight w (lane g.L.Level l.initial.work k) (lane g.L.Level l.work k)
      (λ w xs. (i : ℕ) → i < l.i → xs (all_bits (rows_of l.design.rows) + i) ≡ w (all_bits (rows_of l.design.rows) + i)));
  kept : OnlyIn (WorkRow (rows_of l.design.rows)) l.initial.work l.work;
}
