use Rattle.std.proofs.Common.{length, get_or, ap, subst, arith}
use Rattle.level.specs.contracts.ternary.TernaryLevel.TheImpl.{ghosts as ternary}
use Rattle.grammar.specs.declared.draft.Class.TheVariants.{Input}
use Rattle.control.specs.Databases.{rows_of}
use Rattle.control.specs.Points.{symbols_of}
use Rattle.control.specs.Levels.{lane}
use Rattle.lines.specs.Cursors.{GotBytes}
use Rattle.lines.proofs.ValuePrints.{class_at, none_shown, class_room, class_turn, steps_room, end_room, line_shown}
use Rattle.lines.proofs.printing.print_letters.Goals as goal

pub loop-class-init : goal.loop-class-init
loop-class-init c = none_shown (rows_of c.args.design.now.rows) (lane ternary c.args.work.now 0) c.args.output.now

pub write_class-end-requires-clause-room : goal.write_class-end-requires-clause-room
write_class-end-requires-clause-room c =
    let d = rows_of c.args.design.now.rows in
    let l = c.loop-class in
    let same = ap (λ cs. length (symbols_of d (get_or cs l.class-index Input))) c.printed_classes-class-items.ensures in
    let room = class_room d (lane ternary c.args.work.now 0) l.end l.class-index c.args.output.now l.output l.invariant c.args.design.now.usable (omega arith) in
    omega arith

pub loop-class-preserved : goal.loop-class-preserved
loop-class-preserved c =
    let d = rows_of c.args.design.now.rows in
    let w = lane ternary c.args.work.now 0 in
    let l = c.loop-class in
    let put = c.write_class-end in
    class_turn d w l.end l.class-index c.args.output.now l.output l.invariant put.result put.new.output (omega arith)
    (subst (λ cs. GotBytes (class_at d w cs l.class-index) l.end put.result l.output put.new.output) c.printed_classes-class-items.ensures put.ensures)

pub write_steps-steps-requires-clause-room : goal.write_steps-steps-requires-clause-room
write_steps-steps-requires-clause-room c =
    let l = c.loop-class in
    let room = steps_room (rows_of c.args.design.now.rows) (lane ternary c.args.work.now 0) l.end l.class-index c.args.output.now l.output l.invariant c.args.design.now.usable (omega arith) in
    omega arith

pub write_byte-requires : goal.write_byte-requires
write_byte-requires c =
    let l = c.loop-class in
    let steps = c.write_steps-steps in
    let room = end_room (rows_of c.args.design.now.rows) (lane ternary c.args.work.now 0) l.end l.class-index c.args.output.now l.output l.invariant c.args.design.now.usable steps.result steps.new.output (omega arith) steps.ensures in
    record { room = omega arith }

pub returns : goal.returns
returns c =
    let l = c.loop-class in
    let steps = c.write_steps-steps in
    line_shown (rows_of c.args.design.now.rows) (lane ternary c.args.work.now 0) l.end l.class-index c.args.output.now l.output l.invariant steps.result c.write_byte.result steps.new.output c.write_byte.new.output (omega arith)
    steps.ensures c.write_byte.ensures
