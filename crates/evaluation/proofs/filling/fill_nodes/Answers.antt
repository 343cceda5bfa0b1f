use Rattle.std.proofs.Common.{◌≡◌, ◌+◌, ◌-◌, true, false, length, get_or, sym, ap, ◌∙◌, subst, arith}
use Rattle.least.specs.Each.{IsRow}
use Rattle.control.specs.Databases.{rows_of}
use Rattle.control.specs.Levels.{lane, OnlyIn, WorkRow}
use Rattle.evaluation.specs.Inner.{NowRight, NodesRight}
use Rattle.evaluation.proofs.Rights.{only_then}
use Rattle.evaluation.proofs.Orders.{reached_keeps, marked_keeps, fed_all, nodes_more}
use Rattle.evaluation.proofs.filling.fill_nodes.Goals.{then-not-filled-i, else-not-filled-i}
use Rattle.evaluation.proofs.filling.fill_nodes.Goals as goal

pub loop-i-preserved : goal.loop-i-preserved
loop-i-preserved g c =
    let d = rows_of c.args.design.now.rows in
    let u = c.args.design.now.usable in
    let i = c.loop-i.i in
    let inv = c.loop-i.invariant in
    let row : IsRow d.nodes (i + 1) = (omega arith, omega (arith, ap (λ r. length (rows_of r).nodes) c.rows.ensures)) in
    let same : i ≡ i + 1 - 1 = omega arith in
    record {
      fills = λ k h held w settled from.
          let first = lane g.L.Level c.args.work.now k in
          let before = lane g.L.Level c.loop-i.work k in
          let old = inv.fills k h held w settled from in
          elim c.if-not-filled-i.branch [
            | then-not-filled-i v ↦
                let made = v.fill_node.ensures.fills k h held w settled (fed_all d u w before (i + 1) row (reached_keeps d w first before old.keeps (length d.symbols + 1) from.1) (subst (NodesRight d w before) same old.has)) in
                subst (λ x. NowRight w first (lane g.L.Level x k) (λ w ys. NodesRight d w ys (i + 1))) (sym v.work-is)
                (record { keeps = λ r e. made.keeps r (old.keeps r e); has = nodes_more d w before (lane g.L.Level v.fill_node.new.work k) made.keeps i old.has made.has })
            | else-not-filled-i v ↦
                let mark : get_or c.args.filled.now (i + 1 - 1) false ≡ true = ap (λ n. get_or c.args.filled.now n false) (sym same) ∙ v.if-not-filled-i.false in
                subst (λ x. NowRight w first (lane g.L.Level x k) (λ w ys. NodesRight d w ys (i + 1))) (sym v.work-is)
                (record { keeps = old.keeps; has = nodes_more d w before before (λ r e. e) i old.has (marked_keeps d w first before old.keeps c.args.filled.now from.0 (i + 1) row mark) })
          ];
      kept =
          elim c.if-not-filled-i.branch [
            | then-not-filled-i v ↦ subst (OnlyIn (WorkRow d) c.args.work.now) (sym v.work-is) (only_then inv.kept v.fill_node.ensures.kept)
            | else-not-filled-i v ↦ subst (OnlyIn (WorkRow d) c.args.work.now) (sym v.work-is) inv.kept
          ];
    }

pub returns-clause-fills : goal.returns-clause-fills
returns-clause-fills g c = λ k h held w settled from.
    let old = c.loop-i.invariant.fills k h held w settled from in
    record { keeps = old.keeps; has = λ n one low. old.has n one (omega (arith, ap (λ r. length (rows_of r).nodes) c.rows.ensures)) }
