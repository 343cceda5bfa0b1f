use Rattle.std.proofs.Common.{◌≡◌, ◌≤◌, sym, ap, ◌∙◌, subst, arith}
use Rattle.least.specs.Each.{IsRow}
use Rattle.database.specs.Rows.{statement, target}
use Rattle.control.specs.Databases.{rows_of}
use Rattle.control.specs.Levels.{lane}
use Rattle.evaluation.specs.Inner.{NodeRight, Supplied, Sourced}
use Rattle.evaluation.proofs.Rights.{only_then}
use Rattle.evaluation.proofs.Joins.{at_following, before_zero}
use Rattle.evaluation.proofs.Orders.{reached_keeps, supplied, value_row, given_bus, sourced_more}
use Rattle.evaluation.proofs.filling.fill_values.Goals as goal

pub loop-n-preserved : goal.loop-n-preserved
loop-n-preserved g c =
    let d = rows_of c.args.design.now.rows in
    let u = c.args.design.now.usable in
    let y = c.args.bus in
    let n = c.loop-n.n in
    let m = c.next_target-n.result in
    let inv = c.loop-n.invariant in
    let one : 1 ≤ n = omega arith in
    let row : IsRow d.targets n = (one, inv.row.there) in
    let is = inv.row.names one in
    let next = c.next_target-n.ensures row in
    let target_is : c.target-target.result ≡ target d n = c.target-target.ensures ∙ ap (λ r. target (rows_of r) n) c.rows.ensures in
    let value_is : c.statement-value.result.value ≡ (statement d (target d n).statement).value
    = ap (λ s. s.value) (c.statement-value.ensures ∙ ap (λ r. statement (rows_of r) c.target-target.result.statement) c.rows-in-loop-n.ensures) ∙ ap (λ t. (statement d t.statement).value) target_is in
    record {
      row = at_following d y n m is row next;
      fills = λ k h held w settled from.
          let old = inv.fills k h held w settled from in
          let before = lane g.L.Level c.loop-n.work k in
          let after = lane g.L.Level c.fill_expression.new.work k in
          let reached = reached_keeps d w (lane g.L.Level c.args.work.now k) before old.keeps y from.1 in
          let made = c.fill_expression.ensures.fills k h held w settled (old.has.0, λ p. subst (Supplied d w before) (sym value_is) (supplied d u w before y n row is c.requires.bus reached)) in
          let value = subst (NodeRight d w after) value_is (made.has.1 (subst (λ v. 1 ≤ v) (sym value_is) (value_row d u w after n row).0)) in
          record {
            keeps = λ q e. made.keeps q (old.keeps q e);
            has = (made.has.0, sourced_more d w before after made.keeps y n m row is next old.has.1 (given_bus d u w after y n row is c.requires.bus value));
          };
      kept = only_then inv.kept c.fill_expression.ensures.kept;
    }

pub returns-clause-fills : goal.returns-clause-fills
returns-clause-fills g c = λ k h held w settled from.
    let d = rows_of c.args.design.now.rows in
    let old = c.loop-n.invariant.fills k h held w settled from in
    record {
      keeps = old.keeps;
      has = (old.has.0, subst (Sourced d w (lane g.L.Level c.loop-n.work k) c.args.bus) (before_zero d c.args.bus c.loop-n.n c.loop-n-test.false) old.has.1);
    }
