use Rattle.std.proofs.Common.{◌≡◌, ◌+◌, ◌-◌, ◌<◌, length, ap, ◌∙◌, arith, rules}
use Rattle.control.specs.Databases.{rows_of}
use Rattle.control.specs.Levels.{lane}
use Rattle.control.specs.Points.{held_step, held_count}
use Rattle.engine.proofs.NextRows.{lane_at, only_write}
use Rattle.engine.proofs.NextLoads.{held_few, loads_step}
use Rattle.engine.proofs.clock.load_steps.Goals as goal

pub loop-i-preserved : goal.loop-i-preserved
loop-i-preserved g c =
    let design = c.args.design.now in
    let d = rows_of design.rows in
    let i = c.loop-i.i in
    let held = c.loop-i.held in
    let first = c.held_bits-first.result in
    let next = c.pass_along-next.result in
    let same : length c.rows.result.steps.now ≡ length design.rows.steps.now = ap (λ rows. length rows.steps.now) c.rows.ensures in
    let few = held_few d design.usable in
    let place : first + i ≡ held_step d (i + 1) = omega (arith, c.held_bits-first.ensures) in
    let low : first + i < length held = omega arith in
    let used : first + i < held_count d = omega arith in
    let here : i ≡ i + 1 - 1 = omega arith in
    let inside : i < length next = search rules in (
      loads_step g.L.Level d c.args.work.now c.args.held.now held i (first + i) _ (omega arith) low place
          (λ k below. lane_at g.L.Level k next i _ inside ∙ ap (lane g.L.Level next k) here ∙ c.pass_along-next.ensures k below (i + 1) (omega arith, omega arith)) c.loop-i.invariant.0,
      only_write (first + i) _ c.loop-i.invariant.1 used,
    )
