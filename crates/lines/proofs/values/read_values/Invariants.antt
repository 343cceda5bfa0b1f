use Rattle.control.specs.Databases.{rows_of}
use Rattle.lines.specs.Cursors.{Has, from_list}
use Rattle.lines.proofs.ValueLines.{front}
use Rattle.lines.proofs.values.read_values.Given as goal

abbrev pub invariant-loop-symbol : goal.invariant-loop-symbol
invariant-loop-symbol l = Has (front (rows_of l.design.rows) (from_list l.letters) l.symbol) l.line 0 l.at
