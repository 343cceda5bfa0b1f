use Rattle.std.proofs.Common.{◌≡◌, ◌+◌, drop, option_map}
use Rattle.symbols.specs.Names.{index_of}
use Rattle.symbols.proofs.names.index_of.Given as goal

abbrev pub invariant-loop-i : goal.invariant-loop-i
invariant-loop-i l = index_of l.text l.fn.name l.items ≡ option_map (λ k. l.i + k) (index_of l.text l.fn.name (drop l.i l.items))
