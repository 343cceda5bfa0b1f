-- That what is printed of an accepted text fits into 4,096 bytes. Assumes nothing.
use Rattle.std.specs.Prelude.{ℕ, ◌≤◌, List, length}
use Rattle.database.specs.Rows.{Database}
use Rattle.text.specs.Promise.{Says}
use Rattle.control.specs.Letters.{Letters}
use Rattle.lines.specs.Lines.{printed_names, printed_letters}

-- the line of its names, which ends with STEPS, is no longer
abbrev pub NamesFit : Type 0
NamesFit = (text : List ℕ) (d : Database) → Says text d → length (printed_names text d) ≤ 4096

-- nor is a line of letters of its memory, buses, outputs and steps, whatever the letters are
abbrev pub LettersFit : Type 0
LettersFit = (text : List ℕ) (d : Database) (w : Letters) → Says text d → length (printed_letters d w) ≤ 4096
