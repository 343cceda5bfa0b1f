-- Tables into which a database was read hold it, and no other that is sound. Assumes nothing.
use Rattle.std.proofs.Common.{◌≡◌, ℕ, ◌+◌, ◌-◌, List, ◌++◌, length, replicate, ap, ◌∙◌, arith}
use Rattle.std.proofs.lemmas.List.{length-append, length-replicate}
use Rattle.database.specs.Rows.{Database, no_symbol, no_step, no_statement, no_target, no_exit, no_node}
use Rattle.database.specs.Tables.{TableLists, filled, Holds}
use Rattle.database.specs.Soundness.{Sound}
use Rattle.soundness.proofs.Held.{one_held}
use Rattle.control.specs.Databases.{Begins, Hold}
use Rattle.playing.specs.Promise.{database_in}

begins_filled : {A : Type 0} (none : A) (size : ℕ) (rows table : List A) → table ≡ filled none size rows → Begins none rows table
begins_filled none size rows table e = (size - length rows, e)

-- a table is as long as its rows and the unused ones behind them
filled_begins : {A : Type 0} (none : A) (rows table : List A) → Begins none rows table → table ≡ filled none (length table) rows
filled_begins none rows table (unused, e) =
    let long : length table ≡ length rows + unused = ap length e ∙ length-append rows (replicate unused none) ∙ ap (λ n. length rows + n) (length-replicate unused none) in
    let same : unused ≡ length table - length rows = omega (arith, long) in
    e ∙ ap (λ n. rows ++ replicate n none) same

pub holding : (d : Database) (old new : TableLists) → Holds d old new → Hold d (database_in new)
holding d old new h = record {
  symbols = begins_filled no_symbol _ d.symbols new.symbols h.symbols;
  steps = begins_filled no_step _ d.steps new.steps h.steps;
  statements = begins_filled no_statement _ d.statements new.statements h.statements;
  targets = begins_filled no_target _ d.targets new.targets h.targets;
  exits = begins_filled no_exit _ d.exits new.exits h.exits;
  nodes = begins_filled no_node _ d.nodes new.nodes h.nodes;
}

filling : (d : Database) (t : TableLists) → Hold d (database_in t) → Holds d t t
filling d t h = record {
  symbols = filled_begins no_symbol d.symbols t.symbols h.symbols;
  steps = filled_begins no_step d.steps t.steps h.steps;
  statements = filled_begins no_statement d.statements t.statements h.statements;
  targets = filled_begins no_target d.targets t.targets h.targets;
  exits = filled_begins no_exit d.exits t.exits h.exits;
  nodes = filled_begins no_node d.nodes t.nodes h.nodes;
}

-- a sound database that they hold is the one that was read
pub held_is_read : (bytes : ℕ) (d e : Database) (old new : TableLists) → Sound bytes d → Holds d old new → Sound bytes e → Hold e (database_in new) → e ≡ d
held_is_read bytes d e old new s h t g = one_held bytes bytes e d new old new t s (filling e new g) h
