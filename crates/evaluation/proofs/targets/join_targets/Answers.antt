use Rattle.std.proofs.Common.{◌≤◌, sym, ◌∙◌, arith}
use Rattle.least.specs.Each.{IsRow}
use Rattle.control.specs.Databases.{rows_of}
use Rattle.control.specs.Rules.{target_guard, guarded}
use Rattle.control.specs.Levels.{lane}
use Rattle.evaluation.proofs.Rights.{lane_all}
use Rattle.evaluation.proofs.Joins.{at_next, over_first, at_following, over_following}
use Rattle.evaluation.proofs.targets.join_targets.Goals as goal

pub loop-n-init : goal.loop-n-init
loop-n-init g c =
    let d = rows_of c.args.design.now.rows in
    let y = c.args.symbol in
    let n = c.first_target-n.result in
    let first = c.first_target-n.ensures c.requires.row in
    record {
      row = at_next d y 1 n first;
      values = λ k h b low. lane_all g.L.Level k c.zero.result 32 b low ∙ c.zero.ensures k h ∙ sym (over_first d y n b (guarded d (lane g.L.Level c.args.work.now k) b) first);
      guards = λ k h b low. lane_all g.L.Level k c.zero-2.result 32 b low ∙ c.zero-2.ensures k h ∙ sym (over_first d y n b (target_guard d (lane g.L.Level c.args.work.now k)) first);
    }

pub loop-n-preserved : goal.loop-n-preserved
loop-n-preserved g c =
    let d = rows_of c.args.design.now.rows in
    let y = c.args.symbol in
    let n = c.loop-n.n in
    let m = c.next_target-n.result in
    let inv = c.loop-n.invariant in
    let one : 1 ≤ n = omega arith in
    let row : IsRow d.targets n = (one, inv.row.there) in
    let is = inv.row.names one in
    let next = c.next_target-n.ensures row in
    record {
      row = at_following d y n m is row next;
      values = λ k h b low. over_following d y n m is row next b (guarded d (lane g.L.Level c.args.work.now k) b) (inv.values k h b low) (c.join_target.ensures.values k h b low);
      guards = λ k h b low. over_following d y n m is row next b (target_guard d (lane g.L.Level c.args.work.now k)) (inv.guards k h b low) (c.join_target.ensures.guards k h b low);
    }
