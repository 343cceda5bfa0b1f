use Rattle.std.proofs.Common.{◌≡◌, ◌≤◌, ap, ◌∙◌, subst, arith}
use Rattle.least.specs.Each.{IsRow}
use Rattle.database.specs.Rows.{node}
use Rattle.database.specs.Soundness.{Reads, left, right}
use Rattle.control.specs.Databases.{rows_of}
use Rattle.control.specs.Levels.{lane}
use Rattle.evaluation.specs.Inner.{NodeRight}
use Rattle.evaluation.proofs.Orders.{fed_below, marked_more, marked_keeps}
use Rattle.evaluation.proofs.filling.+fill_expression.Goals as goal

pub returns-clause-fills : goal.returns-clause-fills
returns-clause-fills g t c = λ k h held w settled from.
    let d = rows_of c.args.design.now.rows in
    let u = c.args.design.now.usable in
    let n = c.args.n in
    let one : 1 ≤ n = omega arith in
    let row : IsRow d.nodes n = (one, c.requires.within) in
    let is : c.node-node.result ≡ node d n = c.node-node.ensures ∙ ap (λ r. node (rows_of r) n) c.rows.ensures in
    let reads = from.1 one in
    let after_left = lane g.L.Level c.fill_expression.new.work k in
    let after_right = lane g.L.Level c.fill_expression-2.new.work k in
    let after = lane g.L.Level c.fill_node.new.work k in
    let l = c.fill_expression.ensures.fills k h held w settled (from.0, λ p y r. reads y (left row (subst (λ x. Reads d x.left y) is r))) in
    let r = c.fill_expression-2.ensures.fills k h held w settled (l.has.0, λ p y r b low. l.keeps _ (reads y (right row (subst (λ x. Reads d x.right y) is r)) b low)) in
    let fed = fed_below d u w after_right n row
    (λ y q b low. r.keeps _ (l.keeps _ (reads y q b low)))
    (λ p b low. r.keeps _ (subst (λ x. 1 ≤ x.left → NodeRight d w after_left x.left) is l.has.1 p b low))
    (subst (λ x. 1 ≤ x.right → NodeRight d w after_right x.right) is r.has.1) in
    let f = c.fill_node.ensures.fills k h held w settled fed in
    record {
      keeps = λ q e. f.keeps q (r.keeps q (l.keeps q e));
      has = (marked_more d w after c.fill_expression-2.new.filled n one (marked_keeps d w after_right after f.keeps c.fill_expression-2.new.filled r.has.0) f.has, λ p. f.has);
    }
