use Rattle.std.proofs.Common.{length, ap, arith}
use Rattle.control.specs.Databases.{rows_of}
use Rattle.lines.proofs.NameClasses.{part, class_reckoned, class_not_fitting, steps_reckoned}
use Rattle.lines.proofs.names.room_behind_line.Goals as goal

pub returns-in_err-left : goal.returns-in_err-left
returns-in_err-left c =
    let text = c.args.design.now.text.now in
    let rows = rows_of c.args.design.now.rows in
    let i = c.loop-class.class-index in
    let same = ap (λ cs. length (part text rows cs i)) c.printed_classes-class-items.ensures in
    rw c.from_residual.ensures (class_not_fitting text rows c.args.room c.loop-class.left i (omega arith) c.loop-class.invariant (omega (arith, c.in_err-left.ensures)))

pub loop-class-preserved : goal.loop-class-preserved
loop-class-preserved c =
    let text = c.args.design.now.text.now in
    let rows = rows_of c.args.design.now.rows in
    let i = c.loop-class.class-index in
    let same = ap (λ cs. length (part text rows cs i)) c.printed_classes-class-items.ensures in
    class_reckoned text rows c.args.room c.loop-class.left c.in_ok-left.left i (omega arith) c.loop-class.invariant (omega (arith, c.in_ok-left.ensures))

pub returns : goal.returns
returns c =
    steps_reckoned c.args.design.now.text.now (rows_of c.args.design.now.rows) c.args.room c.loop-class.left c.loop-class.class-index c.checked_sub.result (omega arith) c.loop-class.invariant c.checked_sub.ensures
