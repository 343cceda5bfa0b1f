use Rattle.std.proofs.Common.{◌≡◌, ◌+◌, ◌-◌, ◌<◌, length, refl, sym, ap, ◌∙◌, subst, arith, rules}
use Rattle.least.specs.Each.{IsRow}
use Rattle.control.specs.Databases.{rows_of}
use Rattle.control.specs.Points.{all_bits, held_bits, held_step, step_point}
use Rattle.control.specs.Levels.{lane, WorkRow}
use Rattle.evaluation.proofs.Rights.{lane_read, write_more, only_write}
use Rattle.evaluation.proofs.Places.{kept_low, kept_used, held_low, step_low, step_used}
use Rattle.evaluation.proofs.working.hold.Goals as goal

pub offset_bounds-held-p : goal.offset_bounds-held-p
offset_bounds-held-p g c = omega (arith, c.held_bits-bits.ensures, kept_low (rows_of c.args.design.now.rows) c.args.design.now.usable c.loop-p.p)

pub bounds-held-p : goal.bounds-held-p
bounds-held-p g c = omega (arith, c.held_bits-bits.ensures, kept_low (rows_of c.args.design.now.rows) c.args.design.now.usable c.loop-p.p)

pub bounds-work-p : goal.bounds-work-p
bounds-work-p g c = omega (arith, c.held_bits-bits.ensures, c.loop-p.invariant.kept.length, kept_low (rows_of c.args.design.now.rows) c.args.design.now.usable c.loop-p.p)

pub offset_bounds-work-p : goal.offset_bounds-work-p
offset_bounds-work-p g c =
    let inside : c.loop-p.p < length c.loop-p.work = omega (arith, c.held_bits-bits.ensures, c.loop-p.invariant.kept.length, kept_low (rows_of c.args.design.now.rows) c.args.design.now.usable c.loop-p.p) in
    search rules

pub overflow_add-work : goal.overflow_add-work
overflow_add-work g c = omega (arith, c.held_bits-bits.ensures, ap (λ r. length (rows_of r).steps) c.rows.ensures, held_low (rows_of c.args.design.now.rows) c.args.design.now.usable c.loop-i.i)

pub offset_bounds-held-bits : goal.offset_bounds-held-bits
offset_bounds-held-bits g c = omega (arith, c.held_bits-bits.ensures, ap (λ r. length (rows_of r).steps) c.rows.ensures, held_low (rows_of c.args.design.now.rows) c.args.design.now.usable c.loop-i.i)

pub bounds-held-bits : goal.bounds-held-bits
bounds-held-bits g c = omega (arith, c.held_bits-bits.ensures, ap (λ r. length (rows_of r).steps) c.rows.ensures, held_low (rows_of c.args.design.now.rows) c.args.design.now.usable c.loop-i.i)

pub loop-p-preserved : goal.loop-p-preserved
loop-p-preserved g c =
    let d = rows_of c.args.design.now.rows in
    let u = c.args.design.now.usable in
    let p = c.loop-p.p in
    let work = c.loop-p.work in
    let inv = c.loop-p.invariant in
    let low : p < held_bits d = omega (arith, c.held_bits-bits.ensures) in
    let few = kept_low d u p low in
    record {
      fills = λ k h w settled.
          write_more g.L.Level k work p c.index-held-p.result (λ q. q) p w (lane g.L.Level c.args.work.now k) refl (omega (arith, inv.kept.length))
          (lane_read g.L.Level k c.args.held.now p c.index-held-p.result (omega arith) c.index-held-p.is ∙ sym (settled.held p low))
          (inv.fills k h w settled);
      kept = only_write p c.index-held-p.result inv.kept (kept_used d u p low);
    }

pub loop-i-preserved : goal.loop-i-preserved
loop-i-preserved g c =
    let d = rows_of c.args.design.now.rows in
    let u = c.args.design.now.usable in
    let i = c.loop-i.i in
    let from = c.held_bits-bits.result + i in
    let to = c.all_bits-first_step.result + i in
    let work = c.loop-i.work in
    let inv = c.loop-i.invariant in
    let low : i < length d.steps = omega (arith, ap (λ r. length (rows_of r).steps) c.rows.ensures) in
    let row : IsRow d.steps (i + 1) = (omega arith, omega arith) in
    let there : to ≡ all_bits d + i = ap (λ n. n + i) c.all_bits-first_step.ensures in
    let held_there : from ≡ held_step d (i + 1) = omega (arith, c.held_bits-bits.ensures) in
    let step_there : step_point d (i + 1) ≡ to = omega arith in
    record {
      fills = λ k h w settled.
          write_more g.L.Level k work to c.index-held-bits.result (λ i. all_bits d + i) i w (lane g.L.Level c.loop-p.work k) there (omega (arith, step_low d u i low, inv.kept.length, c.loop-p.invariant.kept.length))
          (lane_read g.L.Level k c.args.held.now from c.index-held-bits.result (omega (arith, held_low d u i low, c.held_bits-bits.ensures)) c.index-held-bits.is
          ∙ ap (lane g.L.Level c.args.held.now k) held_there ∙ sym (settled.steps (i + 1) row) ∙ ap w step_there)
          (inv.fills k h w settled);
      kept = only_write to c.index-held-bits.result inv.kept (subst (WorkRow d) (sym there) (step_used d u i low));
    }

pub returns-clause-fills : goal.returns-clause-fills
returns-clause-fills g c = λ k h w settled.
    let d = rows_of c.args.design.now.rows in
    let bits = c.loop-p.invariant.fills k h w settled in
    let steps = c.loop-i.invariant.fills k h w settled in
    record {
      keeps = λ r e. steps.keeps r (bits.keeps r e);
      has = record {
        bits = λ p low. steps.keeps p (bits.has p (omega (arith, c.held_bits-bits.ensures)));
        steps = λ s row. steps.has (s - 1) (omega (arith, row.0, row.1, ap (λ r. length (rows_of r).steps) c.rows.ensures));
      };
    }
