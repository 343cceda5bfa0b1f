-- What the functions within decide. Assumes nothing.
use Rattle.std.specs.Prelude.{ℕ, ◌+◌, ◌≤◌, List}
use Rattle.least.specs.Each.{row_at, IsRow}
use Rattle.database.specs.declared.rows.SymbolRow.{SymbolRow}
use Rattle.database.specs.Rows.{no_symbol}

-- each row of a table is so
abbrev pub EachRow : {A : Type 0} → A → (A → Type 0) → List A → Type 0
EachRow none P xs = (n : ℕ) → IsRow xs n → P (row_at none xs n)

-- the name of one symbol ends before that of another
abbrev pub NamedBefore : SymbolRow → SymbolRow → Type 0
NamedBefore x y = x.place + x.length ≤ y.place

-- so does that of each symbol before that of the next
abbrev pub InOrder : List SymbolRow → Type 0
InOrder xs = (n : ℕ) → IsRow xs n → IsRow xs (n + 1) → NamedBefore (row_at no_symbol xs n) (row_at no_symbol xs (n + 1))
