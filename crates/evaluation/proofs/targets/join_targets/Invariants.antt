use Rattle.std.proofs.Common.{◌≡◌, ℕ, ◌-◌, ◌<◌, length}
use Rattle.control.specs.Databases.{rows_of}
use Rattle.control.specs.Rules.{target_guard, guarded, over_targets}
use Rattle.control.specs.Levels.{lane, InEachLane}
use Rattle.evaluation.specs.Inner.{AtTarget, targets_before}
use Rattle.evaluation.proofs.targets.join_targets.Given as goal

-- the targets before n were given theirs
abbrev pub invariant-loop-n : goal.invariant-loop-n
invariant-loop-n g l = record {
  row : AtTarget (rows_of l.design.rows) l.symbol l.n;
  values : InEachLane g.L.Level (λ k. (b : ℕ) → b < 32 → lane g.L.Level l.joined.values k b ≡ over_targets (rows_of l.design.rows) l.symbol b (guarded (rows_of l.design.rows) (lane g.L.Level l.work k) b) (targets_before (rows_of l.design.rows) l.n));
  guards : InEachLane g.L.Level (λ k. (b : ℕ) → b < 32 → lane g.L.Level l.joined.guards k b ≡ over_targets (rows_of l.design.rows) l.symbol b (target_guard (rows_of l.design.rows) (lane g.L.Level l.work k)) (targets_before (rows_of l.design.rows) l.n));
}

abbrev pub decreases-loop-n : goal.decreases-loop-n
decreases-loop-n g l = length (rows_of l.design.rows).targets - targets_before (rows_of l.design.rows) l.n
