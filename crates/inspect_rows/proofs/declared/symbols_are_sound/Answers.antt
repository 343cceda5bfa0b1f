use Rattle.database.specs.Rows.{no_symbol}
use Rattle.database.specs.Soundness.{SymbolSound}
use Rattle.inspect_rows.proofs.Passed.{is_next}
use Rattle.inspect_rows.proofs.declared.symbols_are_sound.Goals as goal

pub returns-then-not-symbol_is_sound : goal.returns-then-not-symbol_is_sound
returns-then-not-symbol_is_sound c all = c.if-not-symbol_is_sound.ensures (is_next no_symbol (SymbolSound c.args.bytes) c.args.symbols.now c.loop-symbol.symbol-index c.loop-symbol-test.true all)
