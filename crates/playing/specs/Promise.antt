-- What is promised of playing calls on a text. Assumes nothing.
use Rattle.std.specs.Prelude.{ℕ, List}
use Rattle.level.specs.declared.Level.{Ghosts}
use Rattle.database.specs.declared.tables.Counts.{Counts}
use Rattle.database.specs.Rows.{Database}
use Rattle.database.specs.Tables.{TableLists, is_short}
use Rattle.text.specs.Promise.{Reads, Refused, Leaves}
use Rattle.control.specs.declared.calls.Call.{Call}
use Rattle.control.specs.declared.calls.Answer.{Answer}
use Rattle.control.specs.Levels.{OnlyIn, HeldRow, WorkRow}
use Rattle.engine.specs.Promise.{Held, Played}
use Rattle.playing.specs.declared.faults.PlayFault.{PlayFault}
use Rattle.playing.specs.declared.faults.PlayFault.TheVariants.{OutOfMemory, Read}

-- all rows of six tables, as those of a database
abbrev pub database_in : TableLists → Database
database_in t = record {
  symbols = t.symbols;
  steps = t.steps;
  statements = t.statements;
  targets = t.targets;
  exits = t.exits;
  nodes = t.nodes;
}

-- The text says a database, which is sound and which the tables hold then. In each lane the calls have a run on it with these answers, and
-- only rows in use for it changed.
pub record PlaysText {X : Type 0} (G : Ghosts X) (text : List ℕ) (calls : List (Call X)) (answers : List (Answer X)) (tables tables_then : TableLists) (old new : Held X) : Type 0 where
  pub counts : Counts
  pub read : Reads text counts tables tables_then
  pub played : Played G read.database calls answers old new
  pub held : OnlyIn (HeldRow read.database) old.held new.held
  pub work : OnlyIn (WorkRow read.database) old.work new.work

-- Why no call is played, and what that leaves in the tables: the text is refused, which leaves there what a refused text does; or it is
-- read, and memory is wanting for the answers.
abbrev pub Unplayed : List ℕ → TableLists → TableLists → PlayFault → Type 0
Unplayed text old new OutOfMemory = (counts : Counts) × Reads text counts old new
Unplayed text old new (Read fault) = Refused (is_short old) text fault × Leaves fault old new
