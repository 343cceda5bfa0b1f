use Rattle.std.proofs.Common.{◌≡◌, ◌+◌, ◌<◌, length, ap, ap₂, ◌∙◌, arith, rules}
use Rattle.level.specs.Letters.{not_l, and_l, or_l}
use Rattle.database.specs.Rows.{symbol}
use Rattle.control.specs.Databases.{rows_of}
use Rattle.control.specs.Levels.{lane}
use Rattle.control.specs.Points.{width_of, point_of, held_count}
use Rattle.engine.proofs.NextRows.{lane_read, lane_at, only_write}
use Rattle.engine.proofs.NextLoads.{held_few, register_held, loads_bit}
use Rattle.evaluation.proofs.Sizes.{joined_fits}
use Rattle.engine.proofs.clock.load_register.Goals as goal

pub join_targets-joined-requires : goal.join_targets-joined-requires
join_targets-joined-requires g c = (joined_fits _ _ c.requires.filled c.well_formed.1.1.0.1, (c.requires.row, c.requires.filled))

pub loop-b-preserved : goal.loop-b-preserved
loop-b-preserved g c =
    let design = c.args.design.now in
    let d = rows_of design.rows in
    let y = c.args.symbol in
    let b = c.loop-b.b in
    let work = c.args.work.now in
    let held = c.loop-b.held in
    let values = c.join_targets-joined.result.values in
    let guards = c.join_targets-joined.result.guards in
    let start = c.base-base.result in
    let is = c.symbol-b-end.ensures ∙ ap (λ rows. symbol (rows_of rows) y) c.rows.ensures in
    let wide : b < width_of d y = omega (arith, ap (λ x. x.width) is) in
    let place : start + b ≡ point_of d y b = ap (λ p. p + b) (c.base-base.ensures c.requires.row) in
    let fits = register_held d design.usable y c.requires.row c.requires.register in
    let few = held_few d design.usable in
    let low : start + b < length held = omega arith in
    let readable : start + b < length work = omega arith in
    let used : start + b < held_count d = omega arith in
    let narrow : b < 32 = let most = (design.usable.symbols y c.requires.row).width in omega (arith, most.1) in
    let valued : b < length values = search rules in
    let guarded : b < length guards = search rules in (
      loads_bit g.L.Level d work c.args.held.now held y b (start + b) c.next_bit.result c.requires.row c.requires.register wide low place
          (λ k below. c.next_bit.ensures k below
          ∙ ap₂ or_l (lane_at g.L.Level k values b _ valued ∙ c.join_targets-joined.ensures.values k below b narrow)
          (ap₂ and_l (lane_read g.L.Level k work (start + b) _ readable c.index-work-row.is ∙ ap (lane g.L.Level work k) place)
          (ap not_l (lane_at g.L.Level k guards b _ guarded ∙ c.join_targets-joined.ensures.guards k below b narrow))))
          c.loop-b.invariant.0,
      only_write (start + b) c.next_bit.result c.loop-b.invariant.1 used,
    )
