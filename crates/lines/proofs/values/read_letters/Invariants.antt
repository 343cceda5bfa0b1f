use Rattle.std.proofs.Common.{◌+◌, take}
use Rattle.lines.specs.Cursors.{Has, characters}
use Rattle.lines.proofs.values.read_letters.Given as goal

abbrev pub invariant-loop-i : goal.invariant-loop-i
invariant-loop-i l = Has (characters (take l.i l.letters)) l.line l.at (l.at + l.i)
