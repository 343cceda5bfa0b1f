use Rattle.std.proofs.Common.{◌≡◌, string_bytes}
use Rattle.std.specs.Prelude.{map, take}
use Rattle.explain.specs.Spots.{below}
use Rattle.explain.proofs.lines.caret_below.Given as goal

abbrev pub invariant-loop-byte : goal.invariant-loop-byte
invariant-loop-byte l = string_bytes l.line ≡ map below (take l.byte-index l.byte-items)
