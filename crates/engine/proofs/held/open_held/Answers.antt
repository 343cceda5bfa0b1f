use Rattle.std.proofs.Common.{◌≡◌, ◌+◌, ◌<◌, rules, ap, ◌∙◌, length, sym, arith, subst}
use Rattle.level.specs.declared.letter.Letter.TheVariants.{Zero}
use Rattle.control.specs.Databases.{rows_of}
use Rattle.control.specs.Points.{input_bits, register_bits}
use Rattle.control.specs.Levels.{lane}
use Rattle.settling.proofs.Points.{inputs_held}
use Rattle.engine.proofs.Lanes.{lane_at}
use Rattle.engine.proofs.Writes.{Written, written_none, written_more}
use Rattle.engine.proofs.Opens.{held_few, opened, opened_only}
use Rattle.engine.proofs.held.open_held.Goals as goal

pub offset_bounds-held-p : goal.offset_bounds-held-p
offset_bounds-held-p g c =
    let few = held_few (rows_of c.args.design.now.rows) c.args.design.now.usable in
    let inputs = inputs_held (rows_of c.args.design.now.rows) in
    let here : c.loop-p.p < length c.loop-p.held = omega arith in
    search rules

pub bounds-held-p : goal.bounds-held-p
bounds-held-p g c =
    let few = held_few (rows_of c.args.design.now.rows) c.args.design.now.usable in
    let inputs = inputs_held (rows_of c.args.design.now.rows) in
    omega arith

pub overflow_add-first : goal.overflow_add-first
overflow_add-first g c =
    let few = held_few (rows_of c.args.design.now.rows) c.args.design.now.usable in
    omega arith

pub offset_bounds-held-first : goal.offset_bounds-held-first
offset_bounds-held-first g c =
    let few = held_few (rows_of c.args.design.now.rows) c.args.design.now.usable in
    let here : c.input_bits-first.result + c.loop-i.i < length c.loop-i.held = omega arith in
    search rules

pub bounds-held-first : goal.bounds-held-first
bounds-held-first g c =
    let few = held_few (rows_of c.args.design.now.rows) c.args.design.now.usable in
    omega arith

pub loop-p-init : goal.loop-p-init
loop-p-init g c = written_none g.L.Level 0 (λ k i. Zero) c.args.held.now

pub loop-p-preserved : goal.loop-p-preserved
loop-p-preserved g c =
    let few = held_few (rows_of c.args.design.now.rows) c.args.design.now.usable in
    let inputs = inputs_held (rows_of c.args.design.now.rows) in
    written_more g.L.Level 0 (λ k i. Zero) c.loop-p.p _ c.args.held.now c.loop-p.held c.zero.result (omega arith) (omega arith) c.zero.ensures c.loop-p.invariant

pub loop-i-init : goal.loop-i-init
loop-i-init g c = written_none g.L.Level (input_bits (rows_of c.args.design.now.rows)) (λ k i. lane g.L.Level c.args.starts.now k i) c.loop-p.held

pub loop-i-preserved : goal.loop-i-preserved
loop-i-preserved g c =
    let few = held_few (rows_of c.args.design.now.rows) c.args.design.now.usable in
    written_more g.L.Level (input_bits (rows_of c.args.design.now.rows)) (λ k i. lane g.L.Level c.args.starts.now k i) c.loop-i.i _ c.loop-p.held c.loop-i.held c.index-starts-i.result (omega arith) (omega arith)
    (λ k inside. ap (λ v. g.L.Level.letters v k) c.index-starts-i.is ∙ sym (lane_at g.L.Level k c.args.starts.now c.loop-i.i c.index-starts-i.result (omega arith)))
    c.loop-i.invariant

pub returns-clause-opened : goal.returns-clause-opened
returns-clause-opened g c =
    let d = rows_of c.args.design.now.rows in
    opened g.L.Level d c.args.starts.now c.args.held.now c.loop-p.held c.loop-i.held c.reset_steps.new.held
    (subst (λ n. Written g.L.Level 0 (λ k i. Zero) n c.args.held.now c.loop-p.held) (let e : c.loop-p.p ≡ input_bits d = omega arith in e) c.loop-p.invariant)
    (subst (λ n. Written g.L.Level (input_bits d) (λ k i. lane g.L.Level c.args.starts.now k i) n c.loop-p.held c.loop-i.held) (let e : c.loop-i.i ≡ register_bits d = omega arith in e) c.loop-i.invariant)
    c.reset_steps.ensures.steps

pub returns-clause-kept : goal.returns-clause-kept
returns-clause-kept g c =
    let d = rows_of c.args.design.now.rows in
    opened_only g.L.Level d c.args.starts.now c.args.held.now c.loop-p.held c.loop-i.held c.reset_steps.new.held
    (subst (λ n. Written g.L.Level 0 (λ k i. Zero) n c.args.held.now c.loop-p.held) (let e : c.loop-p.p ≡ input_bits d = omega arith in e) c.loop-p.invariant)
    (subst (λ n. Written g.L.Level (input_bits d) (λ k i. lane g.L.Level c.args.starts.now k i) n c.loop-p.held c.loop-i.held) (let e : c.loop-i.i ≡ register_bits d = omega arith in e) c.loop-i.invariant)
    c.reset_steps.ensures.kept
