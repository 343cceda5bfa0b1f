use Rattle.std.proofs.Common.{◌≡◌, ◌+◌, ◌-◌, ◌<◌, ◌≤◌, length, ap, ap₂, ◌∙◌, subst, arith}
use Rattle.level.specs.Letters.{and_l, or_l}
use Rattle.database.specs.Rows.{statement, target}
use Rattle.control.specs.Databases.{rows_of}
use Rattle.control.specs.Letters.{node_bit}
use Rattle.control.specs.Points.{offset}
use Rattle.control.specs.Rules.{guard, target_guard, guarded}
use Rattle.control.specs.Levels.{lane}
use Rattle.evaluation.specs.Inner.{TargetJoined}
use Rattle.evaluation.proofs.Rights.{lane_index}
use Rattle.evaluation.proofs.Joins.{joins_turn, joins_none}
use Rattle.evaluation.proofs.targets.join_target.Goals as goal

pub loop-b-preserved : goal.loop-b-preserved
loop-b-preserved g c =
    let d = rows_of c.args.design.now.rows in
    let u = c.args.design.now.usable in
    let n = c.args.n in
    let b = c.loop-b.b in
    let inv = c.loop-b.invariant in
    let x = u.targets n c.requires.row in
    let symbol = u.symbols (target d n).symbol x.names in
    let target_is : c.target-target.result ≡ target d n = c.target-target.ensures ∙ ap (λ r. target (rows_of r) n) c.rows.ensures in
    let value_is : c.statement-value.result.value ≡ (statement d (target d n).statement).value
    = ap (λ s. s.value) (c.statement-value.ensures ∙ ap (λ r. statement (rows_of r) c.target-target.result.statement) c.rows-2.ensures) ∙ ap (λ t. (statement d t.statement).value) target_is in
    let place_is : c.offset-offset.result + (b - c.target-target.result.first) ≡ offset d n + (b - (target d n).first) = ap₂ (λ o t. o + (b - t.first)) (c.offset-offset.ensures c.requires.row) target_is in
    let from : (target d n).first ≤ b = subst (λ t. t.first ≤ b) target_is c.loop-b.auto.b in
    let to : b < (target d n).last + 1 = subst (λ t. b < t.last + 1) target_is c.loop-b-test.true in
    let wide : b < 32 = omega (arith, x.within, symbol.width.1) in
    let values_low : b < length c.loop-b.joined.values = omega arith in
    let guards_low : b < length c.loop-b.joined.guards = omega arith in
    record {
      values = λ k h.
          let xs = lane g.L.Level c.args.work.now k in
          joins_turn g.L.Level k (target d n).first b (λ b. guarded d xs b n) c.args.joined.now.values c.loop-b.joined.values c.or.result from values_low (inv.values k h)
          (c.or.ensures k h ∙ ap (λ a. or_l a (g.L.Level.letters c.and.result k)) (lane_index g.L.Level k c.loop-b.joined.values b c.index-joined-b.result values_low c.index-joined-b.is))
          (c.and.ensures k h ∙ ap₂ and_l (c.guard-guard.ensures k h ∙ ap (λ t. guard d xs t.statement) target_is) (c.node_bit-given.ensures k h ∙ ap₂ (node_bit xs) value_is place_is));
      guards = λ k h.
          let xs = lane g.L.Level c.args.work.now k in
          joins_turn g.L.Level k (target d n).first b (λ b. target_guard d xs n) c.args.joined.now.guards c.loop-b.joined.guards c.or-in-loop-b.result from guards_low (inv.guards k h)
          (c.or-in-loop-b.ensures k h ∙ ap (λ a. or_l a (g.L.Level.letters c.guard-guard.result k)) (lane_index g.L.Level k c.loop-b.joined.guards b c.index-joined-b-in-loop-b-2.result guards_low c.index-joined-b-in-loop-b-2.is))
          (c.guard-guard.ensures k h ∙ ap (λ t. guard d xs t.statement) target_is);
    }

pub returns-clause-values : goal.returns-clause-values
returns-clause-values g c =
    let d = rows_of c.args.design.now.rows in
    let n = c.args.n in
    let x = c.args.design.now.usable.targets n c.requires.row in
    let target_is : c.target-target.result ≡ target d n = c.target-target.ensures ∙ ap (λ r. target (rows_of r) n) c.rows.ensures in
    let all : c.loop-b.b ≡ (target d n).last + 1 = omega (arith, x.forward, ap (λ t. t.first) target_is, ap (λ t. t.last) target_is) in
    subst (λ next. TargetJoined g.L.Level c.args.joined.now.values c.loop-b.joined.values (target d n).first next (λ k b. guarded d (lane g.L.Level c.args.work.now k) b n)) all c.loop-b.invariant.values

pub returns-clause-guards : goal.returns-clause-guards
returns-clause-guards g c =
    let d = rows_of c.args.design.now.rows in
    let n = c.args.n in
    let x = c.args.design.now.usable.targets n c.requires.row in
    let target_is : c.target-target.result ≡ target d n = c.target-target.ensures ∙ ap (λ r. target (rows_of r) n) c.rows.ensures in
    let all : c.loop-b.b ≡ (target d n).last + 1 = omega (arith, x.forward, ap (λ t. t.first) target_is, ap (λ t. t.last) target_is) in
    subst (λ next. TargetJoined g.L.Level c.args.joined.now.guards c.loop-b.joined.guards (target d n).first next (λ k b. target_guard d (lane g.L.Level c.args.work.now k) n)) all c.loop-b.invariant.guards

pub loop-b-init : goal.loop-b-init
loop-b-init g c =
    let d = rows_of c.args.design.now.rows in
    let n = c.args.n in
    let first : c.target-target.result.first ≡ (target d n).first = ap (λ t. t.first) (c.target-target.ensures ∙ ap (λ r. target (rows_of r) n) c.rows.ensures) in
    let begun : c.target-target.result.first ≤ (target d n).first = omega arith in
    record {
      values = λ k h. joins_none g.L.Level k (target d n).first c.target-target.result.first (λ b. guarded d (lane g.L.Level c.args.work.now k) b n) c.args.joined.now.values begun;
      guards = λ k h. joins_none g.L.Level k (target d n).first c.target-target.result.first (λ b. target_guard d (lane g.L.Level c.args.work.now k) n) c.args.joined.now.guards begun;
    }
