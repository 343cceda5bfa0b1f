use Rattle.std.proofs.Common.{arith}
use Rattle.cells.proofs.Letters.{filled_none, filled_more}
use Rattle.cells.proofs.table.fill.Goals as goal

pub loop-i-init : goal.loop-i-init
loop-i-init g c = filled_none g.L.Level g.C.Cell.letter c.args.cells.now c.args.leaves.now c.args.work.now

pub loop-i-preserved : goal.loop-i-preserved
loop-i-preserved g c =
    filled_more g.L.Level g.C.Cell.letter c.args.cells.now c.args.leaves.now c.args.work.now c.loop-i.work c.loop-i.i
    c.level.result c.index-cells-i.result (omega arith) (omega (arith, c.loop-i.invariant.long)) c.index-cells-i.is c.loop-i.invariant c.level.ensures
