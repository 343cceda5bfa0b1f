use Rattle.std.proofs.Common.{arith}
use Rattle.lines.proofs.ValueOutputs.{wrote_nothing, levels_room, levels_turn, levels_end}
use Rattle.lines.proofs.printing.write_levels.Goals as goal

pub loop-level-init : goal.loop-level-init
loop-level-init c = wrote_nothing c.args.at c.args.output.now

pub write_byte-end-requires : goal.write_byte-end-requires
write_byte-end-requires c =
    let place = levels_room c.args.levels.now c.loop-level.level-index c.args.at c.loop-level.end c.args.output.now c.loop-level.output c.loop-level.invariant c.loop-level-test.true in
    record { room = omega arith }

pub loop-level-preserved : goal.loop-level-preserved
loop-level-preserved c =
    levels_turn c.args.levels.now c.loop-level.level-index c.args.at c.loop-level.end c.args.output.now c.loop-level.output c.loop-level.invariant _
    c.symbol.result c.write_byte-end.result c.write_byte-end.new.output c.loop-level-test.true c.symbol.ensures c.write_byte-end.ensures

pub returns : goal.returns
returns c =
    levels_end c.args.levels.now c.loop-level.level-index c.args.at c.loop-level.end c.args.output.now c.loop-level.output c.loop-level.invariant
    (omega arith)
