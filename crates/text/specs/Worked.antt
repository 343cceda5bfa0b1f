-- Module texts whose databases are worked out. Assumes nothing.
use Rattle.std.specs.Prelude.{◌≡◌, ℕ, List, [], ◌∷◌, ◌++◌, codes}
use Rattle.database.specs.declared.rows.SymbolRow.{SymbolRow}
use Rattle.database.specs.declared.rows.StepRow.{StepRow}
use Rattle.database.specs.declared.rows.StatementRow.{StatementRow}
use Rattle.database.specs.declared.rows.TargetRow.{TargetRow}
use Rattle.database.specs.declared.rows.ExitRow.{ExitRow}
use Rattle.database.specs.declared.rows.NodeRow.{NodeRow}
use Rattle.rules.specs.Strings.{bits_of}
use Rattle.database.specs.Rows.{Database, node}
use Rattle.text.specs.Promise.{Says}

-- rows, column by column
abbrev pub symbol_of : ℕ → ℕ → ℕ → ℕ → SymbolRow
symbol_of class width place len = record { class = class; width = width; place = place; length = len }

abbrev pub step_of : ℕ → ℕ → ℕ → StepRow
step_of kind condition reset = record { kind = kind; condition = condition; reset = reset }

abbrev pub statement_of : ℕ → ℕ → ℕ → ℕ → StatementRow
statement_of step kind condition value = record { step = step; kind = kind; condition = condition; value = value }

abbrev pub target_of : ℕ → ℕ → ℕ → ℕ → TargetRow
target_of statement symbol first last = record { statement = statement; symbol = symbol; first = first; last = last }

abbrev pub exit_of : ℕ → ℕ → ExitRow
exit_of left entered = record { left = left; entered = entered }

abbrev pub node_of : ℕ → ℕ → ℕ → ℕ → ℕ → ℕ → ℕ → ℕ → NodeRow
node_of sign symbol first last left right width value =
    record { sign = sign; symbol = symbol; first = first; last = last; left = left; right = right; width = width; value = value }

-- a name, and a constant
abbrev pub name_of : ℕ → ℕ → ℕ → ℕ → NodeRow
name_of symbol first last width = node_of 1 symbol first last 0 0 width 0

abbrev pub constant_of : ℕ → ℕ → NodeRow
constant_of width value = node_of 2 0 0 0 0 0 width value

abbrev pub operator_of : ℕ → ℕ → ℕ → ℕ → NodeRow
operator_of sign left right width = node_of sign 0 0 0 left right width 0

-- lines of text
abbrev pub lines : List (List ℕ) → List ℕ
lines [] = []
lines (line ∷ more) = line ++ 10 ∷ lines more

-- A register that is loaded from an input while another is 1, and shown.
abbrev pub pace : List ℕ
pace =
    lines (
    codes "MODULE: PACE. INPUTS: go; d[2]. OUTPUTS: q[2]; hot. MEMORY: r[2]."
    ∷ codes "BODY SEQUENCE: clk."
    ∷ codes "1 r * (go) <= d; => (^go)/(1)."
    ∷ codes "2 q = r; hot = &/ r; => (1)."
    ∷ codes "ENDSEQUENCE CONTROLRESET(1). END." ∷ [])

abbrev pub pace_database : Database
pace_database = record {
  symbols = symbol_of 1 1 22 2 ∷ symbol_of 1 2 26 1 ∷ symbol_of 2 2 41 1 ∷ symbol_of 2 1 47 3 ∷ symbol_of 3 2 60 1 ∷ [];
  steps = step_of 3 4 1 ∷ step_of 2 0 0 ∷ [];
  statements = statement_of 1 2 1 2 ∷ statement_of 2 1 0 5 ∷ statement_of 2 1 0 7 ∷ [];
  targets = target_of 1 5 0 1 ∷ target_of 2 3 0 1 ∷ target_of 3 4 0 0 ∷ [];
  exits = exit_of 1 1 ∷ exit_of 2 1 ∷ [];
  nodes =
      name_of 1 0 0 1 ∷ name_of 2 0 1 2 ∷ name_of 1 0 0 1 ∷ operator_of 7 3 0 1
      ∷ name_of 5 0 1 2 ∷ name_of 5 0 1 2 ∷ operator_of 8 6 0 1 ∷ [];
}

-- 5$3, and 2$7, which keeps 2 bits of its 7
abbrev pub constants : List ℕ
constants =
    lines (
    codes "MODULE: c. OUTPUTS: a[5]; b[2]. BODY SEQUENCE: clk."
    ∷ codes "1 a = 5$3; b = 2$7; => (1)."
    ∷ codes "ENDSEQUENCE CONTROLRESET(1). END." ∷ [])

abbrev pub constants_database : Database
constants_database = record {
  symbols = symbol_of 2 5 20 1 ∷ symbol_of 2 2 26 1 ∷ [];
  steps = step_of 2 0 1 ∷ [];
  statements = statement_of 1 1 0 1 ∷ statement_of 1 1 0 2 ∷ [];
  targets = target_of 1 1 0 4 ∷ target_of 2 2 0 1 ∷ [];
  exits = exit_of 1 1 ∷ [];
  nodes = constant_of 5 3 ∷ constant_of 2 3 ∷ [];
}

-- A string of one bit is repeated; a comma parts what NOT stands before from what follows.
abbrev pub strings : List ℕ
strings =
    lines (
    codes "MODULE: s. OUTPUTS: a[2]; b[3]. BODY SEQUENCE: clk."
    ∷ codes "1 a = \\1,1\\ & \\0\\; b = ^\\1,0\\,\\1\\; => (1)."
    ∷ codes "ENDSEQUENCE CONTROLRESET(1). END." ∷ [])

abbrev pub strings_database : Database
strings_database = record {
  symbols = symbol_of 2 2 20 1 ∷ symbol_of 2 3 26 1 ∷ [];
  steps = step_of 2 0 1 ∷ [];
  statements = statement_of 1 1 0 3 ∷ statement_of 1 1 0 7 ∷ [];
  targets = target_of 1 1 0 1 ∷ target_of 2 2 0 2 ∷ [];
  exits = exit_of 1 1 ∷ [];
  nodes =
      constant_of 2 3 ∷ constant_of 1 0 ∷ operator_of 4 1 2 2
      ∷ constant_of 2 2 ∷ operator_of 7 4 0 2 ∷ constant_of 1 1 ∷ operator_of 3 5 6 3 ∷ [];
}

-- a text, and the database that it says
pub record Case : Type 0 where
  pub text : List ℕ
  pub database : Database

abbrev pub cases : List Case
cases =
    record { text = pace; database = pace_database }
    ∷ record { text = constants; database = constants_database }
    ∷ record { text = strings; database = strings_database } ∷ []

abbrev pub EachSays : List Case → Type 0
EachSays [] = Unit {0}
EachSays (x ∷ xs) = Says x.text x.database × EachSays xs

-- the bits of a constant, from the left
abbrev pub constant_bits : NodeRow → List ℕ
constant_bits x = bits_of x.width x.value

-- 5$3 is 00011, and 2$7 is 11; \1,1\ is 11, and \1,0\ is 10
abbrev pub ConstantsAre : Type 0
ConstantsAre =
    (constant_bits (node constants_database 1) ≡ 0 ∷ 0 ∷ 0 ∷ 1 ∷ 1 ∷ [])
    × (constant_bits (node constants_database 2) ≡ 1 ∷ 1 ∷ [])
    × (constant_bits (node strings_database 1) ≡ 1 ∷ 1 ∷ [])
    × (constant_bits (node strings_database 4) ≡ 1 ∷ 0 ∷ [])

abbrev pub Worked : Type 0
Worked = EachSays cases × ConstantsAre
