-- What is promised of the calls that play lines. Assumes nothing.
use Rattle.std.specs.Prelude.{◌≡◌, ℕ, Bool, true, false, nat_lt, List, length}
use Rattle.database.specs.Rows.{Database}
use Rattle.control.specs.Letters.{Letters}
use Rattle.lines.specs.declared.faults.LineFault.{LineFault}
use Rattle.lines.specs.declared.faults.LineFault.TheVariants.{ShortTable, ShortOutput, WrongNames, WrongValues}
use Rattle.lines.specs.Lines.{NamesInputs, printed_names, printed_letters, value_line, Printed, is_narrow, PlaysLine}

-- A names line that is right: it names the inputs, and what it prints is written into the output.
pub record Named (text : List ℕ) (d : Database) (line : List ℕ) (n : ℕ) (old new : List ℕ) : Type 0 where
  pub wide : is_narrow (printed_names text d) (length old) ≡ false
  pub names : NamesInputs text d line
  pub printed : Printed (printed_names text d) n old new

-- Why a names line is refused, by the lowest number.
abbrev pub NameRefused : List ℕ → Database → List ℕ → ℕ → LineFault → Type 0
NameRefused text d line room ShortTable = ⊥
NameRefused text d line room ShortOutput = is_narrow (printed_names text d) room ≡ true
NameRefused text d line room WrongNames = (is_narrow (printed_names text d) room ≡ false) × (NamesInputs text d line → ⊥)
NameRefused text d line room WrongValues = ⊥

-- A value line that is right: it has letters of the inputs, it is played from the held letters h, which leaves u, and the letters w
-- between are printed.
pub record Valued (d : Database) (line : List ℕ) (h w u : Letters) (n : ℕ) (old new : List ℕ) : Type 0 where
  pub wide : nat_lt (length old) 4096 ≡ false
  pub driven : Letters
  pub reads : line ≡ value_line d driven
  pub plays : PlaysLine d driven h w u
  pub printed : Printed (printed_letters d w) n old new

-- Why a value line is refused, by the lowest number; a table of levels is short, or not.
abbrev pub ValueRefused : Bool → Database → List ℕ → ℕ → LineFault → Type 0
ValueRefused short d line room ShortTable = short ≡ true
ValueRefused short d line room ShortOutput = (short ≡ false) × (nat_lt room 4096 ≡ true)
ValueRefused short d line room WrongNames = ⊥
ValueRefused short d line room WrongValues = (short ≡ false) × (nat_lt room 4096 ≡ false) × ((x : Letters) → line ≡ value_line d x → ⊥)
