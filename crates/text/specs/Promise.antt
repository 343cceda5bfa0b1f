-- What is promised of reading a text into six tables. Assumes nothing.
use Rattle.std.specs.Prelude.{◌≡◌, ℕ, Bool, true, false, List, [], length}
use Rattle.grammar.specs.Drafts.{DraftLists}
use Rattle.drafts.specs.Parsed.{Drafted, Undrafted}
use Rattle.least.specs.declared.rule.RuleFault.{RuleFault}
use Rattle.least.specs.Order.{IsLeast}
use Rattle.rules.specs.Faults.{faults}
use Rattle.database.specs.declared.tables.Counts.{Counts}
use Rattle.database.specs.Rows.{Database, counts_of}
use Rattle.database.specs.Saying.{database_of}
use Rattle.database.specs.Tables.{TableLists, is_short, Holds, Zeroed}
use Rattle.database.specs.Soundness.{Sound}
use Rattle.text.specs.declared.faults.ReadFault.{ReadFault}
use Rattle.text.specs.declared.faults.ReadFault.TheVariants.{OutOfMemory, ShortTable, Draft, Rule}

-- The text keeps words, grammar and rules, and says the database.
pub record Says (text : List ℕ) (database : Database) : Type 0 where
  pub draft : DraftLists
  pub drafted : Drafted text draft
  pub faultless : faults text draft ≡ []
  pub rows : database ≡ database_of text draft

-- The text keeps words and grammar, and breaks rules: of all its faults this is the least.
pub record Breaks (text : List ℕ) (fault : RuleFault) : Type 0 where
  pub draft : DraftLists
  pub drafted : Drafted text draft
  pub least : IsLeast (faults text draft) fault

-- Why a text is refused, where a table is too short or none is. Never for want of memory.
abbrev pub Refused : Bool → List ℕ → ReadFault → Type 0
Refused short text OutOfMemory = ⊥
Refused short text ShortTable = short ≡ true
Refused short text (Draft fault) = (short ≡ false) × Undrafted text fault
Refused short text (Rule fault) = (short ≡ false) × Breaks text fault

-- What a refused text leaves in the tables: all rows as they were, or zero.
abbrev pub Leaves : ReadFault → TableLists → TableLists → Type 0
Leaves OutOfMemory old new = new ≡ old
Leaves ShortTable old new = new ≡ old
Leaves (Draft fault) old new = new ≡ old
Leaves (Rule fault) old new = Zeroed old new

-- What an accepted text leaves there: its database, which is sound, so many rows of each table being in use.
pub record Reads (text : List ℕ) (counts : Counts) (old new : TableLists) : Type 0 where
  pub long : is_short old ≡ false
  pub database : Database
  pub says : Says text database
  pub sound : Sound (length text) database
  pub counted : counts ≡ counts_of database
  pub holds : Holds database old new
