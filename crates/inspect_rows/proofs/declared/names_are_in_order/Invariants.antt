use Rattle.std.proofs.Common.{ℕ, ◌+◌, ◌<◌, ◌≤◌}
use Rattle.least.specs.Each.{row_at}
use Rattle.database.specs.Rows.{no_symbol}
use Rattle.inspect_rows.specs.Inner.{NamedBefore}
use Rattle.inspect_rows.proofs.declared.names_are_in_order.Given as goal

abbrev pub invariant-loop-i : goal.invariant-loop-i
invariant-loop-i l = (n : ℕ) → 1 ≤ n → n < l.i → NamedBefore (row_at no_symbol l.symbols n) (row_at no_symbol l.symbols (n + 1))
