use Rattle.std.proofs.Common.{◌≡◌, ◌+◌, ◌<◌, length, sym, ap, ◌∙◌, subst, arith, rules}
use Rattle.database.specs.Rows.{symbol}
use Rattle.control.specs.Databases.{rows_of}
use Rattle.control.specs.Points.{width_of, point_of}
use Rattle.control.specs.Levels.{lane, WorkRow}
use Rattle.evaluation.proofs.Rights.{lane_index, write_more, only_write}
use Rattle.evaluation.proofs.Places.{point_low, point_used}
use Rattle.evaluation.proofs.Orders.{driven_same}
use Rattle.evaluation.proofs.Sizes.{joined_fits}
use Rattle.evaluation.proofs.filling.drive.Goals as goal

pub join_targets-joined-requires : goal.join_targets-joined-requires
join_targets-joined-requires g c = (joined_fits _ _ c.requires.room c.well_formed.1.0.1, (c.requires.row, c.requires.room))

pub loop-b-preserved : goal.loop-b-preserved
loop-b-preserved g c =
    let d = rows_of c.args.design.now.rows in
    let u = c.args.design.now.usable in
    let y = c.args.symbol in
    let row = c.requires.row in
    let b = c.loop-b.b in
    let r = c.base-base.result + b in
    let work = c.loop-b.work in
    let inv = c.loop-b.invariant in
    let values = c.join_targets-joined.result.values in
    let v = c.index-joined-b.result in
    let low : b < width_of d y = subst (λ s. b < s.width) (c.symbol-b-end.ensures ∙ ap (λ r. symbol (rows_of r) y) c.rows.ensures) c.loop-b-test.true in
    let wide : b < 32 = omega (arith, (u.symbols y row).width.1) in
    let there : r ≡ point_of d y b = ap (λ n. n + b) (c.base-base.ensures row) in
    let value_low : b < length values = omega arith in
    let inside : r < length work = omega (arith, point_low d u y b row low, inv.kept.length) in
    record {
      fills = λ k h held w settled from.
          write_more g.L.Level k work r _ (point_of d y) b w (lane g.L.Level c.args.work.now k) there inside
          (lane_index g.L.Level k values b v value_low c.index-joined-b.is
          ∙ c.join_targets-joined.ensures.values k h b wide ∙ driven_same d u w (lane g.L.Level c.args.work.now k) y b from.0 from.1
          ∙ sym (settled.driven y b row c.requires.driven low) ∙ ap w (sym there))
          (inv.fills k h held w settled from);
      kept = only_write r _ inv.kept (subst (WorkRow d) (sym there) (point_used d u y b row low));
    }

pub overflow_add-base : goal.overflow_add-base
overflow_add-base g c =
    let d = rows_of c.args.design.now.rows in
    let u = c.args.design.now.usable in
    let y = c.args.symbol in
    let low : c.loop-b.b < width_of d y = subst (λ s. c.loop-b.b < s.width) (c.symbol-b-end.ensures ∙ ap (λ r. symbol (rows_of r) y) c.rows.ensures) c.loop-b-test.true in
    omega (arith, point_low d u y c.loop-b.b c.requires.row low, c.base-base.ensures c.requires.row, c.loop-b.invariant.kept.length)

pub offset_bounds-work-base : goal.offset_bounds-work-base
offset_bounds-work-base g c =
    let d = rows_of c.args.design.now.rows in
    let u = c.args.design.now.usable in
    let y = c.args.symbol in
    let low : c.loop-b.b < width_of d y = subst (λ s. c.loop-b.b < s.width) (c.symbol-b-end.ensures ∙ ap (λ r. symbol (rows_of r) y) c.rows.ensures) c.loop-b-test.true in
    let inside : c.base-base.result + c.loop-b.b < length c.loop-b.work = omega (arith, point_low d u y c.loop-b.b c.requires.row low, c.base-base.ensures c.requires.row, c.loop-b.invariant.kept.length) in
    search rules

pub bounds-work-base : goal.bounds-work-base
bounds-work-base g c =
    let d = rows_of c.args.design.now.rows in
    let u = c.args.design.now.usable in
    let y = c.args.symbol in
    let low : c.loop-b.b < width_of d y = subst (λ s. c.loop-b.b < s.width) (c.symbol-b-end.ensures ∙ ap (λ r. symbol (rows_of r) y) c.rows.ensures) c.loop-b-test.true in
    omega (arith, point_low d u y c.loop-b.b c.requires.row low, c.base-base.ensures c.requires.row, c.loop-b.invariant.kept.length)

pub returns-clause-fills : goal.returns-clause-fills
returns-clause-fills g c = λ k h held w settled from.
    let d = rows_of c.args.design.now.rows in
    let y = c.args.symbol in
    let old = c.loop-b.invariant.fills k h held w settled from in
    let width_is : c.symbol-b-end.result.width ≡ width_of d y = ap (λ s. s.width) (c.symbol-b-end.ensures ∙ ap (λ r. symbol (rows_of r) y) c.rows.ensures) in
    record { keeps = old.keeps; has = λ b low. old.has b (omega arith) }
