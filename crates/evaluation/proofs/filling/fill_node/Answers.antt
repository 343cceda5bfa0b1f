use Rattle.std.proofs.Common.{◌≡◌, ◌<◌, length, sym, ap, ◌∙◌, subst, arith}
use Rattle.database.specs.Rows.{node}
use Rattle.control.specs.Databases.{rows_of}
use Rattle.control.specs.Points.{bit_row}
use Rattle.control.specs.Levels.{lane, WorkRow}
use Rattle.evaluation.proofs.Rights.{write_more, only_write, letter_same}
use Rattle.evaluation.proofs.Places.{bit_low, bit_used}
use Rattle.evaluation.proofs.Orders.{fed_keeps}
use Rattle.evaluation.proofs.filling.fill_node.Goals as goal

pub loop-b-preserved : goal.loop-b-preserved
loop-b-preserved g c =
    let d = rows_of c.args.design.now.rows in
    let u = c.args.design.now.usable in
    let n = c.args.n in
    let b = c.loop-b.b in
    let work = c.loop-b.work in
    let inv = c.loop-b.invariant in
    let row = c.requires.row in
    let low : b < (node d n).width = subst (λ x. b < x.width) (c.node-b-end.ensures ∙ ap (λ r. node (rows_of r) n) c.rows.ensures) c.loop-b-test.true in
    let r = c.bit_row.result in
    let there : r ≡ bit_row n b = c.bit_row.ensures in
    let inside : r < length work = omega (arith, bit_low d u n b row low, there, inv.kept.length) in
    record {
      fills = λ k h held w settled fed.
          let old = inv.fills k h held w settled fed in
          let xs = lane g.L.Level work k in
          write_more g.L.Level k work r c.bit-level.result (bit_row n) b w (lane g.L.Level c.args.work.now k) there inside
          (c.bit-level.ensures k h ∙ letter_same d w xs n b u row low (fed_keeps d w (lane g.L.Level c.args.work.now k) xs old.keeps n fed) ∙ sym (settled.nodes n b row low) ∙ ap w (sym there))
          old;
      kept = only_write r c.bit-level.result inv.kept (subst (WorkRow d) (sym there) (bit_used d u n b row low));
    }
