use Rattle.std.proofs.Common.{◌+◌, length, ap, ◌∙◌, arith}
use Rattle.control.specs.Databases.{rows_of}
use Rattle.lines.specs.NameLines.{written_at}
use Rattle.lines.proofs.NameClasses.{part, none_written, class_fits, class_written, steps_fit, line_written}
use Rattle.lines.proofs.names.put_line.Goals as goal

pub loop-class-init : goal.loop-class-init
loop-class-init c = none_written c.args.design.now.text.now (rows_of c.args.design.now.rows) c.args.output.now

pub put_names-end-requires : goal.put_names-end-requires
put_names-end-requires c =
    let text = c.args.design.now.text.now in
    let rows = rows_of c.args.design.now.rows in
    let i = c.loop-class.class-index in
    let fits = class_fits text rows c.args.output.now c.requires c.loop-class.output c.loop-class.end i c.loop-class.invariant (omega arith) in
    rw c.printed_classes-class-items.ensures fits

pub loop-class-preserved : goal.loop-class-preserved
loop-class-preserved c =
    let text = c.args.design.now.text.now in
    let rows = rows_of c.args.design.now.rows in
    let i = c.loop-class.class-index in
    let same = ap (λ cs. part text rows cs i) c.printed_classes-class-items.ensures in
    let put = c.put_names-end in
    class_written text rows c.args.output.now c.requires c.loop-class.output c.loop-class.end i c.loop-class.invariant put.new.output put.result (omega arith)
    (put.ensures.end ∙ ap (λ p. c.loop-class.end + length p) same) (put.ensures.written ∙ ap (written_at c.loop-class.output c.loop-class.end) same)

pub put_steps-requires : goal.put_steps-requires
put_steps-requires c =
    steps_fit c.args.design.now.text.now (rows_of c.args.design.now.rows) c.args.output.now c.requires c.loop-class.output c.loop-class.end c.loop-class.class-index c.loop-class.invariant (omega arith)

pub returns : goal.returns
returns c =
    line_written c.args.design.now.text.now (rows_of c.args.design.now.rows) c.args.output.now c.requires c.loop-class.output c.loop-class.end c.loop-class.class-index c.loop-class.invariant
    c.put_steps.new.output c.put_steps.result (omega arith) c.put_steps.ensures.end c.put_steps.ensures.written
