use Rattle.std.proofs.Common.{◌≡◌, string_bytes}
use Rattle.std.specs.Prelude.{map, take}
use Rattle.explain.specs.Spots.{shown}
use Rattle.explain.proofs.lines.line_shown.Given as goal

abbrev pub invariant-loop-byte : goal.invariant-loop-byte
invariant-loop-byte l = string_bytes l.line ≡ map shown (take l.byte-index l.byte-items)
