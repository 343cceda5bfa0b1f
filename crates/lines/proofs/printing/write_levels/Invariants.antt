use Rattle.std.proofs.Common.{take}
use Rattle.lines.specs.Cursors.{GotBytes, level_characters}
use Rattle.lines.proofs.printing.write_levels.Given as goal

abbrev pub invariant-loop-level : goal.invariant-loop-level
invariant-loop-level l = GotBytes (level_characters (take l.level-index l.levels)) l.at l.end l.initial.output l.output
