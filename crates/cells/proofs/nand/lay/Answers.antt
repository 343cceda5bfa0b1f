use Rattle.std.proofs.Common.{length, append_assoc, vec_items, arith}
use Rattle.std.proofs.lemmas.List.{length_push, map_more}
use Rattle.cells.specs.declared.pattern.Stage.TheVariants.{Zero}
use Rattle.cells.specs.declared.nand.NandCell.{NandCell}
use Rattle.cells.specs.Patterns.{stage_cell}
use Rattle.cells.proofs.Patterns.{wired_at}
use Rattle.cells.proofs.nand.lay.Goals as goal

pub over-requires : goal.over-requires
over-requires c =
    let i = c.loop-stage.stage-index in
    (i, wired_at c.args.part.kind c.args.stages.now 0 i i Zero (omega arith) (omega arith) c.requires.wired, omega (arith, c.requires.fits))

pub loop-stage-preserved : goal.loop-stage-preserved
loop-stage-preserved c = grind (arith, map_more (stage_cell c.args.part (length (vec_items c.args.cells.now.list))) c.args.stages.now c.loop-stage.stage-index Zero, append_assoc {A = NandCell}, length_push {X = NandCell}, c.over.ensures, c.push.ensures.items, c.push.ensures.limit)
