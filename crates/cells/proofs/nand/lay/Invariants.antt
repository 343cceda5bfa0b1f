use Rattle.std.proofs.Common.{◌≡◌, ◌+◌, ◌++◌, map, length, take, vec_items}
use Rattle.cells.specs.Patterns.{stage_cell}
use Rattle.cells.proofs.nand.lay.Given as goal

abbrev pub invariant-loop-stage : goal.invariant-loop-stage
invariant-loop-stage l =
    let cells = vec_items l.initial.cells.list in
    (vec_items l.cells.list ≡ cells ++ map (stage_cell l.part (length cells)) (take l.stage-index l.stages))
    × (l.cells.limit ≡ l.initial.cells.limit)
    × (length (vec_items l.cells.list) ≡ length cells + l.stage-index)
