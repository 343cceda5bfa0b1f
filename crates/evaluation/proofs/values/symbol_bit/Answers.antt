use Rattle.std.proofs.Common.{◌+◌, ap, ◌∙◌, arith}
use Rattle.control.specs.Databases.{rows_of}
use Rattle.control.specs.Levels.{lane}
use Rattle.evaluation.proofs.Places.{point_low}
use Rattle.evaluation.proofs.Rights.{lane_read}
use Rattle.evaluation.proofs.values.symbol_bit.Goals as goal

pub overflow_add-result : goal.overflow_add-result
overflow_add-result g c = omega (arith, c.base.ensures c.requires.row, point_low (rows_of c.args.design.now.rows) c.args.design.now.usable c.args.symbol c.args.b c.requires.row c.requires.bit)

pub offset_bounds-work-base : goal.offset_bounds-work-base
offset_bounds-work-base g c = omega (arith, c.base.ensures c.requires.row, point_low (rows_of c.args.design.now.rows) c.args.design.now.usable c.args.symbol c.args.b c.requires.row c.requires.bit)

pub bounds-work-base : goal.bounds-work-base
bounds-work-base g c = omega (arith, c.base.ensures c.requires.row, point_low (rows_of c.args.design.now.rows) c.args.design.now.usable c.args.symbol c.args.b c.requires.row c.requires.bit)

pub returns : goal.returns
returns g c = λ k h.
    let p = c.base.ensures c.requires.row in
    lane_read g.L.Level k c.args.work.now (c.base.result + c.args.b) c.index-work-base.result
    (omega (arith, p, point_low (rows_of c.args.design.now.rows) c.args.design.now.usable c.args.symbol c.args.b c.requires.row c.requires.bit)) c.index-work-base.is
    ∙ ap (λ n. lane g.L.Level c.args.work.now k (n + c.args.b)) p
