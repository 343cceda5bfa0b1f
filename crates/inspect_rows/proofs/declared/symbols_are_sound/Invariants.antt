use Rattle.database.specs.Rows.{no_symbol}
use Rattle.database.specs.Soundness.{SymbolSound}
use Rattle.inspect_rows.proofs.Passed.{Passed}
use Rattle.inspect_rows.proofs.declared.symbols_are_sound.Given as goal

abbrev pub invariant-loop-symbol : goal.invariant-loop-symbol
invariant-loop-symbol l = Passed no_symbol (SymbolSound l.bytes) l.symbols l.symbol-index
