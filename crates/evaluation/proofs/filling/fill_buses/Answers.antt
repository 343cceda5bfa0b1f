use Rattle.std.proofs.Common.{◌≡◌, ◌+◌, length, sym, ap, ◌∙◌, subst, arith}
use Rattle.std.proofs.lemmas.Bool.{eqb-false}
use Rattle.control.specs.Databases.{rows_of}
use Rattle.control.specs.Points.{rank_of}
use Rattle.control.specs.Levels.{lane, OnlyIn, WorkRow}
use Rattle.evaluation.specs.Inner.{NowRight, MarkedRight, Reached}
use Rattle.evaluation.proofs.Rights.{only_then}
use Rattle.evaluation.proofs.Orders.{reached_keeps, marked_keeps, reached_more, reached_skip}
use Rattle.evaluation.proofs.filling.fill_buses.Goals.{then-is_of_class, else-is_of_class}
use Rattle.evaluation.proofs.filling.fill_buses.Goals as goal

pub loop-i-preserved : goal.loop-i-preserved
loop-i-preserved g c =
    let d = rows_of c.args.design.now.rows in
    let i = c.loop-i.i in
    let inv = c.loop-i.invariant in
    record {
      fills = λ k h held w settled from.
          let old = inv.fills k h held w settled from in
          elim c.if-is_of_class.branch [
            | then-is_of_class v ↦
                let values = v.fill_values.ensures.fills k h held w settled old.has in
                let before = reached_keeps d w (lane g.L.Level c.loop-i.work k) (lane g.L.Level v.fill_values.new.work k) values.keeps (i + 1) old.has.1 in
                let bus = v.drive.ensures.fills k h held w settled (before.steps, values.has.1) in
                let after = reached_keeps d w (lane g.L.Level v.fill_values.new.work k) (lane g.L.Level v.drive.new.work k) bus.keeps (i + 1) before in
                subst (λ f. NowRight w (lane g.L.Level c.args.work.now k) (lane g.L.Level c.if-is_of_class.work k) (λ w ys. MarkedRight d f w ys × Reached d w ys (i + 1 + 1))) (sym v.filled-is)
                (subst (λ x. NowRight w (lane g.L.Level c.args.work.now k) (lane g.L.Level x k) (λ w ys. MarkedRight d v.fill_values.new.filled w ys × Reached d w ys (i + 1 + 1))) (sym v.work-is)
                (record {
                  keeps = λ r e. bus.keeps r (values.keeps r (old.keeps r e));
                  has = (marked_keeps d w (lane g.L.Level v.fill_values.new.work k) (lane g.L.Level v.drive.new.work k) bus.keeps v.fill_values.new.filled values.has.0, reached_more d w (lane g.L.Level v.drive.new.work k) i after bus.has);
                }))
            | else-is_of_class v ↦
                subst (λ f. NowRight w (lane g.L.Level c.args.work.now k) (lane g.L.Level c.if-is_of_class.work k) (λ w ys. MarkedRight d f w ys × Reached d w ys (i + 1 + 1))) (sym v.filled-is)
                (subst (λ x. NowRight w (lane g.L.Level c.args.work.now k) (lane g.L.Level x k) (λ w ys. MarkedRight d c.loop-i.filled w ys × Reached d w ys (i + 1 + 1))) (sym v.work-is)
                (record {
                  keeps = old.keeps;
                  has = (old.has.0, reached_skip d w (lane g.L.Level c.loop-i.work k) i (eqb-false (rank_of d (i + 1)) 3 (sym c.is_of_class.ensures ∙ v.if-is_of_class.false)) old.has.1);
                }))
          ];
      kept =
          elim c.if-is_of_class.branch [
            | then-is_of_class v ↦ subst (OnlyIn (WorkRow d) c.args.work.now) (sym v.work-is) (only_then (only_then inv.kept v.fill_values.ensures.kept) v.drive.ensures.kept)
            | else-is_of_class v ↦ subst (OnlyIn (WorkRow d) c.args.work.now) (sym v.work-is) inv.kept
          ];
    }

pub returns-clause-fills : goal.returns-clause-fills
returns-clause-fills g c = λ k h held w settled from.
    let d = rows_of c.args.design.now.rows in
    let old = c.loop-i.invariant.fills k h held w settled from in
    let all : c.loop-i.i ≡ length d.symbols = omega (arith, ap (λ r. length (rows_of r).symbols) c.rows.ensures) in
    record { keeps = old.keeps; has = (old.has.0, subst (λ n. Reached d w (lane g.L.Level c.loop-i.work k) (n + 1)) all old.has.1) }
