use Rattle.std.proofs.Common.{◌+◌, length}
use Rattle.control.specs.Databases.{rows_of}
use Rattle.control.specs.Levels.{lane}
use Rattle.settling.proofs.Exists.{settled_some}
use Rattle.settling.proofs.RunsFacts.{point_facts}
use Rattle.evaluation.proofs.Orders.{none_marked, reached_first, reached_keeps, settled_right}
use Rattle.evaluation.proofs.working.settle.Goals as goal

-- of the letters that there are, each row in use has its own
pub returns-clause-settled : goal.returns-clause-settled
returns-clause-settled g c = λ k h.
    let d = rows_of c.args.design.now.rows in
    let u = c.args.design.now.usable in
    let held = lane g.L.Level c.args.held.now k in
    let (w, settled) = settled_some d u (point_facts d) held in
    let points = lane g.L.Level c.hold.new.work k in
    let buses = lane g.L.Level c.fill_buses.new.work k in
    let nodes = lane g.L.Level c.fill_nodes.new.work k in
    let all = lane g.L.Level c.fill_outputs.new.work k in
    let a = c.hold.ensures.fills k h w settled in
    let b = c.fill_buses.ensures.fills k h held w settled (none_marked d w points 512, reached_first d u w points a.has) in
    let n = c.fill_nodes.ensures.fills k h held w settled b.has in
    let o = c.fill_outputs.ensures.fills k h held w settled ((λ s row. n.keeps _ (b.has.1.steps s row)), n.has) in
    settled_right d u w all held settled
    (record { bits = λ p low. o.keeps _ (n.keeps _ (b.keeps _ (a.has.bits p low))); steps = λ s row. o.keeps _ (n.keeps _ (b.keeps _ (a.has.steps s row))) })
    (reached_keeps d w nodes all o.keeps (length d.symbols + 1) (reached_keeps d w buses nodes n.keeps (length d.symbols + 1) b.has.1))
    (λ j one low i l. o.keeps _ (n.has j one low i l))
    o.has
