use Rattle.std.proofs.Common.{◌≡◌, ◌+◌, ◌<◌, rules, ap, ◌∙◌, length, arith, subst}
use Rattle.control.specs.Databases.{rows_of}
use Rattle.control.specs.Points.{held_bits}
use Rattle.control.specs.Rules.{reset_letter}
use Rattle.engine.proofs.Writes.{written_none, written_more}
use Rattle.engine.proofs.Opens.{Resetting, held_few, reset_one, reset_zero, was_reset, reset_only}
use Rattle.engine.proofs.held.reset_steps.Goals.{then-step-eq1, else-step-eq1}
use Rattle.engine.proofs.held.reset_steps.Goals as goal

pub overflow_add-first : goal.overflow_add-first
overflow_add-first g c =
    let few = held_few (rows_of c.args.design.now.rows) c.args.design.now.usable in
    let steps = ap (λ rows. length rows.steps.now) c.rows.ensures in
    omega arith

pub loop-i-init : goal.loop-i-init
loop-i-init g c = let d = rows_of c.args.design.now.rows in written_none g.L.Level (held_bits d) (λ k i. reset_letter d (i + 1)) c.args.held.now

pub loop-i-preserved : goal.loop-i-preserved
loop-i-preserved g c =
    let d = rows_of c.args.design.now.rows in
    let few = held_few d c.args.design.now.usable in
    let steps = ap (λ rows. length rows.steps.now) c.rows.ensures in
    let all = ap (λ rows. rows.steps.now) c.rows.ensures in
    written_more g.L.Level (held_bits d) (λ k i. reset_letter d (i + 1)) c.loop-i.i _ c.args.held.now c.loop-i.held c.if-step-eq1.held (omega arith) (omega arith)
    (λ k inside. elim c.if-step-eq1.branch [
      | then-step-eq1 w ↦ reset_one g.L.Level d _ all k c.loop-i.i c.if-step-eq1.held w.if-step-eq1.true (ap (λ v. g.L.Level.letters v k) w.held-is ∙ w.one.ensures k inside)
      | else-step-eq1 w ↦ reset_zero g.L.Level d _ all k c.loop-i.i c.if-step-eq1.held w.if-step-eq1.false (ap (λ v. g.L.Level.letters v k) w.held-is ∙ w.zero.ensures k inside)
    ])
    c.loop-i.invariant

pub returns-clause-steps : goal.returns-clause-steps
returns-clause-steps g c =
    let d = rows_of c.args.design.now.rows in
    let steps = ap (λ rows. length rows.steps.now) c.rows.ensures in
    was_reset g.L.Level d c.args.held.now c.loop-i.held (subst (λ n. Resetting g.L.Level d n c.args.held.now c.loop-i.held) (let e : c.loop-i.i ≡ length d.steps = omega arith in e) c.loop-i.invariant)

pub returns-clause-kept : goal.returns-clause-kept
returns-clause-kept g c =
    let d = rows_of c.args.design.now.rows in
    let steps = ap (λ rows. length rows.steps.now) c.rows.ensures in
    reset_only g.L.Level d c.args.held.now c.loop-i.held (subst (λ n. Resetting g.L.Level d n c.args.held.now c.loop-i.held) (let e : c.loop-i.i ≡ length d.steps = omega arith in e) c.loop-i.invariant)

pub offset_bounds-held-first : goal.offset_bounds-held-first
offset_bounds-held-first g c =
    let few = held_few (rows_of c.args.design.now.rows) c.args.design.now.usable in
    let steps = ap (λ rows. length rows.steps.now) c.rows.ensures in
    let here : c.held_bits-first.result + c.loop-i.i < length c.loop-i.held = omega arith in
    search rules

pub bounds-held-first : goal.bounds-held-first
bounds-held-first g c =
    let few = held_few (rows_of c.args.design.now.rows) c.args.design.now.usable in
    let steps = ap (λ rows. length rows.steps.now) c.rows.ensures in
    omega arith
