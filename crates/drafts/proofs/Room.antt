-- What reading leaves of the tables' memory. Assumes nothing.
use Rattle.std.proofs.Common.{◌≢◌, ℕ, ◌+◌, ◌-◌, ◌≤◌, Err, Vec, vec_items, length, arith}
use Rattle.grammar.specs.declared.draft.Rows.{Rows}
use Rattle.grammar.specs.declared.draft.Heading.{Heading}
use Rattle.grammar.specs.Drafts.{row_lists}
use Rattle.grammar.specs.Room.{HasRoom, RowsRoom}
use Rattle.drafts.specs.Parsed.{FewRows}
use Rattle.cursor.specs.declared.stop.Stop.{Stop}
use Rattle.cursor.specs.declared.stop.Stop.TheVariants.{Unexpected as Wrong, TooDeep as Deep, OutOfMemory as NoMemory}
use Rattle.cursor.specs.Told.{RoomLeft}
use Rattle.grammar.proofs.Room.{rows_room_less}
use Rattle.drafts.specs.declared.faults.DraftFault.TheVariants.{OutOfMemory}
use Rattle.drafts.specs.Inner.{stop_fault}

-- empty tables have room for a row for each of at most so many words
pub enough : (limit words : ℕ) (rows : Rows) → words ≤ limit → RowsRoom limit limit rows → RowsRoom limit (words + (limit - words)) rows
enough limit words rows few r = rows_room_less limit limit (words + (limit - words)) rows (omega arith) r

-- where it stops, it did not want memory
pub stop_no_want : (V room reserved : Type 0) (stop : Stop) (place : ℕ) → RoomLeft {V = V} (Err stop) room reserved → stop_fault stop place ≢ OutOfMemory
stop_no_want V room reserved Wrong place r = λ e. (cc)
stop_no_want V room reserved Deep place r = λ e. (cc)
stop_no_want V room reserved NoMemory place r = absurd r

-- the list in a table that has room is not longer than the room
few_items : {A H : Type 0} (limit more : ℕ) (table : Vec A H) → HasRoom limit more table → length (vec_items table) ≤ limit
few_items limit more table r = omega (arith, r.0, table.ok.0)

-- tables that have room have no more rows than that
pub few_rows : (limit more : ℕ) (heading : Heading) (rows : Rows) → RowsRoom limit more rows → FewRows limit (record { heading = heading; rows = row_lists rows })
few_rows limit more heading rows r = record {
  items = few_items limit more rows.items r.items;
  steps = few_items limit more rows.steps r.steps;
  statements = few_items limit more rows.statements r.statements;
  targets = few_items limit more rows.targets r.targets;
  exits = few_items limit more rows.exits r.exits;
  resets = few_items limit more rows.resets r.resets;
  nodes = few_items limit more rows.terms.nodes r.terms.nodes;
  digits = few_items limit more rows.terms.digits r.terms.digits;
}
