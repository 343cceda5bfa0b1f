use Rattle.std.proofs.Common.{◌+◌, length, sym, ap, ◌∙◌, subst, arith}
use Rattle.std.proofs.lemmas.Bool.{eqb-false}
use Rattle.control.specs.Databases.{rows_of}
use Rattle.control.specs.Points.{rank_of}
use Rattle.control.specs.Levels.{lane, OnlyIn, WorkRow}
use Rattle.evaluation.specs.Inner.{NowRight, OutputsRight}
use Rattle.evaluation.proofs.Rights.{only_then}
use Rattle.evaluation.proofs.Orders.{sourced_all, outputs_more, outputs_skip}
use Rattle.evaluation.proofs.filling.fill_outputs.Goals.{then-is_of_class, else-is_of_class}
use Rattle.evaluation.proofs.filling.fill_outputs.Goals as goal

pub loop-i-preserved : goal.loop-i-preserved
loop-i-preserved g c =
    let d = rows_of c.args.design.now.rows in
    let u = c.args.design.now.usable in
    let i = c.loop-i.i in
    let inv = c.loop-i.invariant in
    record {
      fills = λ k h held w settled from.
          let first = lane g.L.Level c.args.work.now k in
          let before = lane g.L.Level c.loop-i.work k in
          let old = inv.fills k h held w settled from in
          elim c.if-is_of_class.branch [
            | then-is_of_class v ↦
                let output = v.drive.ensures.fills k h held w settled ((λ s row. old.keeps _ (from.0 s row)), sourced_all d u w before (i + 1) (λ n one low b l. old.keeps _ (from.1 n one low b l))) in
                subst (λ x. NowRight w first (lane g.L.Level x k) (λ w ys. OutputsRight d w ys (i + 1))) (sym v.work-is)
                (record { keeps = λ r e. output.keeps r (old.keeps r e); has = outputs_more d w before (lane g.L.Level v.drive.new.work k) output.keeps i old.has output.has })
            | else-is_of_class v ↦
                subst (λ x. NowRight w first (lane g.L.Level x k) (λ w ys. OutputsRight d w ys (i + 1))) (sym v.work-is)
                (record { keeps = old.keeps; has = outputs_skip d w before i (eqb-false (rank_of d (i + 1)) 4 (sym c.is_of_class.ensures ∙ v.if-is_of_class.false)) old.has })
          ];
      kept =
          elim c.if-is_of_class.branch [
            | then-is_of_class v ↦ subst (OnlyIn (WorkRow d) c.args.work.now) (sym v.work-is) (only_then inv.kept v.drive.ensures.kept)
            | else-is_of_class v ↦ subst (OnlyIn (WorkRow d) c.args.work.now) (sym v.work-is) inv.kept
          ];
    }

pub returns-clause-fills : goal.returns-clause-fills
returns-clause-fills g c = λ k h held w settled from.
    let old = c.loop-i.invariant.fills k h held w settled from in
    record { keeps = old.keeps; has = λ y one low. old.has y one (omega (arith, ap (λ r. length (rows_of r).symbols) c.rows.ensures)) }
