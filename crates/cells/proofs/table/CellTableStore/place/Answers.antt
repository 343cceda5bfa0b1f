use Rattle.std.proofs.Common.{◌≡◌, length, false, ap, arith, vec_items}
use Rattle.store.specs.Parts.{kind_at, missing, price}
use Rattle.cells.specs.Cells.{table_meaning}
use Rattle.cells.proofs.Parts.{kind_named, gate_means}
use Rattle.cells.proofs.Places.{none_against, placed_by}
use Rattle.cells.proofs.table.CellTableStore.place.Goals as goal

pub returns : goal.returns
returns g c =
    let cost = price g.C.Cell.COSTS in
    let cells = vec_items c.args.self.now.cells.list in
    let limit = c.args.self.now.cells.limit in
    let kind = c.in_ok-kind.kind in
    let grew = c.expand.ensures.expanded in
    let code = c.args.code in
    let a = c.args.a in
    let b = c.args.b in
    let named = kind_named code kind c.in_ok-kind.ensures in
    let same : cost c.in_ok-part.part.kind ≡ cost kind = grind (arith, c.in_ok-part.ensures.0) in
    let there : missing (kind_at code) a b (length cells) ≡ false = grind (arith, c.in_ok-part.ensures.1) in
    placed_by g.C.Cell.letter cost code a b cells grew.more (vec_items c.expand.new.cells.list) limit c.expand.new.cells.limit c.expand.result grew.grown c.expand.ensures.limit
    (none_against cost code a b (table_meaning g.C.Cell.letter cells limit) named.0 there (omega (arith, ap cost named.1)))
    (omega (arith, grew.few, ap cost named.1))
    (omega (arith, grew.last))
    (λ leaves. grind (arith, grew.means leaves, gate_means kind a b leaves))
