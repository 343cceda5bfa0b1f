use Rattle.std.proofs.Common.{◌-◌, ◌<◌, length-set, refl, sym, ◌∙◌, arith}
use Rattle.std.proofs.lemmas.List.{get_or-replicate, get_or-set_other}
use Rattle.std.proofs.lemmas.Grind.{get_or-set_at}
use Rattle.std.proofs.lemmas.Bool.Decides.{nat_tests}
use Rattle.control.specs.Databases.{rows_of}
use Rattle.engine.proofs.NextRows.{lane_filled}
use Rattle.engine.proofs.NextSteps.{over_none, over_more, exits_none, exits_more}
use Rattle.engine.proofs.clock.pass_along_exits.Goals as goal

pub loop-i-init : goal.loop-i-init
loop-i-init g c =
    let design = c.args.design.now in
    let d = rows_of design.rows in
    let few = design.usable.few_steps in (
      refl,
      refl,
      (λ s row. let low : s - 1 < 64 = omega (arith, row.0, row.1) in get_or-replicate 64 (s - 1) 0 0 low ∙ sym (exits_none d s)),
      (λ k below s row. let low : s - 1 < 64 = omega (arith, row.0, row.1) in lane_filled g.L.Level k 64 c.zero-next.result (s - 1) low ∙ c.zero-next.ensures k below ∙ sym (over_none d _ s)),
    )

pub loop-i-preserved : goal.loop-i-preserved
loop-i-preserved g c = (
  grind arith,
  grind (arith, length-set),
  grind (arith, exits_more, get_or-set_at, get_or-set_other, nat_tests),
  grind (arith, over_more),
)
