-- Rows that were passed, from the front. Assumes nothing.
use Rattle.std.proofs.Common.{◌≡◌, ℕ, ◌+◌, ◌-◌, ◌<◌, ◌≤◌, List, length, get_or, sym, subst, ap, ◌∙◌, ⊎_elim, add-one, arith}
use Rattle.std.proofs.lemmas.Bool.{cases_lt}
use Rattle.least.specs.Each.{row_at}
use Rattle.least.proofs.Lists.{row_in}
use Rattle.database.specs.declared.rows.SymbolRow.{SymbolRow}
use Rattle.database.specs.Rows.{no_symbol}
use Rattle.inspect_rows.specs.Inner.{EachRow, NamedBefore, InOrder}

-- the first rows are so, so many of them
abbrev pub Passed : {A : Type 0} → A → (A → Type 0) → List A → ℕ → Type 0
Passed none P xs i = (n : ℕ) → 1 ≤ n → n ≤ i → P (row_at none xs n)

-- the row behind so many
pub next_row : {A : Type 0} (none : A) (xs : List A) (i : ℕ) → row_at none xs (i + 1) ≡ get_or xs i none
next_row none xs i = rw add-one

pub is_next : {A : Type 0} (none : A) (P : A → Type 0) (xs : List A) (i : ℕ) → i < length xs → EachRow none P xs → P (get_or xs i none)
is_next none P xs i h all = subst P (next_row none xs i) (all (i + 1) (omega arith, omega arith))

-- one row more
pub passed_more : {A : Type 0} (none : A) (P : A → Type 0) (xs : List A) (i : ℕ) → Passed none P xs i → P (get_or xs i none) → Passed none P xs (i + 1)
passed_more none P xs i passed next n first last =
    ⊎_elim
    (λ h. let e : i + 1 ≡ n = omega arith in subst P (sym (next_row none xs i) ∙ ap (row_at none xs) e) next)
    (λ h. passed n first h)
    (cases_lt i n)

-- the names of two symbols, one behind the other
pub next_in_order : (xs : List SymbolRow) (i : ℕ) → 1 ≤ i → i < length xs → InOrder xs → NamedBefore (get_or xs (i - 1) no_symbol) (get_or xs i no_symbol)
next_in_order xs i h k all =
    omega (
      arith,
      all i (omega arith, omega arith) (omega arith, omega arith),
      ap (λ x. x.place + x.length) (row_in no_symbol xs i h),
      ap (λ x. x.place) (next_row no_symbol xs i),
    )
