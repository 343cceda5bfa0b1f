use Rattle.std.proofs.Common.{◌+◌, get_or, sym, ap, ◌∙◌, arith}
use Rattle.database.specs.Rows.{no_symbol}
use Rattle.control.specs.Databases.{rows_of}
use Rattle.design.specs.Inner.{before}
use Rattle.design.proofs.BitCounts.{sum_zero, room, counted_in, left_out}
use Rattle.design.proofs.points.bits_before.Goals as goal
use Rattle.design.proofs.points.bits_before.Goals.{then-is_before, else-is_before}

pub loop-index-init : goal.loop-index-init
loop-index-init c = sym (sum_zero _)

pub overflow_add-bits : goal.overflow_add-bits
overflow_add-bits c =
    let d = rows_of c.args.rows.now in
    omega (arith, room d (λ z. before d c.args.place c.args.number z) c.loop-index.index c.requires c.loop-index-test.true, c.loop-index.invariant)

pub loop-index-preserved : goal.loop-index-preserved
loop-index-preserved c =
    let d = rows_of c.args.rows.now in
    let k = c.loop-index.index in
    elim c.if-is_before.branch [
      | then-is_before w ↦ w.bits-is ∙ ap (λ n. n + (get_or d.symbols k no_symbol).width) c.loop-index.invariant ∙ counted_in d (λ z. before d c.args.place c.args.number z) k (sym c.is_before.ensures ∙ w.if-is_before.true)
      | else-is_before w ↦ w.bits-is ∙ c.loop-index.invariant ∙ left_out d (λ z. before d c.args.place c.args.number z) k (sym c.is_before.ensures ∙ w.if-is_before.false)
    ]
