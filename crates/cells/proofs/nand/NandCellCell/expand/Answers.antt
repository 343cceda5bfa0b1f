use Rattle.std.proofs.Common.{◌≡◌, ◌+◌, ◌-◌, map, length, vec_items, ap, ◌∙◌, arith}
use Rattle.std.proofs.lemmas.List.{length-append, length-map}
use Rattle.cells.specs.Patterns.{stage_cell}
use Rattle.cells.proofs.Patterns.{pattern_means, pattern_sound, some_cells}
use Rattle.cells.proofs.nand.NandCellCell.expand.Goals as goal

pub returns-clause-expanded : goal.returns-clause-expanded
returns-clause-expanded c =
    let part = c.args.part in
    let stages = c.pattern.result.now in
    let cells = vec_items c.args.cells.now.list in
    let more = map (stage_cell part (length cells)) stages in
    let many : length more ≡ length stages = simp length-map in
    let longer : length (vec_items c.lay.new.cells.list) ≡ length cells + length more = ap length c.lay.ensures.items ∙ length-append cells more in
    let some = some_cells part.kind in
    let last : c.len.result - 1 ≡ length cells + (length stages - 1) = omega (arith, c.pattern.ensures.priced, c.len.ensures) in
    record {
      more = more;
      grown = c.lay.ensures.items;
      few = omega (arith, c.pattern.ensures.priced);
      last = omega (arith, c.pattern.ensures.priced, c.len.ensures);
      sound = λ old. rw c.lay.ensures.items (pattern_sound part cells stages old c.requires.there c.pattern.ensures.wired);
      means = λ leaves. cc (c.lay.ensures.items, last, pattern_means part cells stages leaves c.requires.there c.pattern.ensures.wired c.pattern.ensures.realised);
    }
