-- What is reckoned once of a database. Assumes nothing.
use Rattle.std.specs.Prelude.{◌≡◌, ℕ, ◌+◌, ◌-◌, ◌<◌, ◌≤◌, List, length, get_or}
use Rattle.least.specs.Each.{IsRow}
use Rattle.database.specs.Rows.{Database, target}
use Rattle.design.specs.declared.places.Places.{Places}
use Rattle.control.specs.Points.{base, offset, input_bits, held_bits, all_bits}

-- The number is that of the first target, from the row `from` on, that names the symbol; or it is 0, and there is none.
pub record FirstNaming (d : Database) (symbol from n : ℕ) : Type 0 where
  pub none : n ≡ 0 → (t : ℕ) → from ≤ t → IsRow d.targets t → ¬ ((target d t).symbol ≡ symbol)
  pub from_there : 1 ≤ n → from ≤ n
  pub there : n ≤ length d.targets
  pub names : 1 ≤ n → (target d n).symbol ≡ symbol
  pub first : 1 ≤ n → (t : ℕ) → from ≤ t → t < n → ¬ ((target d t).symbol ≡ symbol)

-- the number that stands in the row of that number
abbrev pub in_row : List ℕ → ℕ → ℕ
in_row xs n = get_or xs (n - 1) 0

-- The numbers are those of the database: of each symbol its first point and the first target that names it; of each target the bit of
-- the value that it begins with and the next target that names the same symbol; and how many bits there are.
pub record Placed (d : Database) (p : Places) : Type 0 where
  pub bases : (y : ℕ) → IsRow d.symbols y → in_row p.bases y ≡ base d y
  pub firsts : (y : ℕ) → IsRow d.symbols y → FirstNaming d y 1 (in_row p.firsts y)
  pub offsets : (t : ℕ) → IsRow d.targets t → in_row p.offsets t ≡ offset d t
  pub nexts : (t : ℕ) → IsRow d.targets t → FirstNaming d (target d t).symbol (t + 1) (in_row p.nexts t)
  pub input_bits : p.input_bits ≡ input_bits d
  pub held_bits : p.held_bits ≡ held_bits d
  pub all_bits : p.all_bits ≡ all_bits d
