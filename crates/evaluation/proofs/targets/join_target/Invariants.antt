use Rattle.database.specs.Rows.{target}
use Rattle.control.specs.Databases.{rows_of}
use Rattle.control.specs.Rules.{target_guard, guarded}
use Rattle.control.specs.Levels.{lane}
use Rattle.evaluation.specs.Inner.{TargetJoined}
use Rattle.evaluation.proofs.targets.join_target.Given as goal

-- the bits before b were given theirs
abbrev pub invariant-loop-b : goal.invariant-loop-b
invariant-loop-b g l = record {
  values : TargetJoined g.L.Level l.initial.joined.values l.joined.values (target (rows_of l.design.rows) l.n).first l.b (λ k b. guarded (rows_of l.design.rows) (lane g.L.Level l.work k) b l.n);
  guards : TargetJoined g.L.Level l.initial.joined.guards l.joined.guards (target (rows_of l.design.rows) l.n).first l.b (λ k b. target_guard (rows_of l.design.rows) (lane g.L.Level l.work k) l.n);
}
