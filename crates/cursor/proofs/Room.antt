-- What is left of the tables' memory where a reader stops. Assumes nothing.
use Rattle.std.proofs.Common.{◌≡◌, ℕ, Err, sym, subst}
use Rattle.grammar.specs.declared.draft.Rows.{Rows}
use Rattle.grammar.specs.Room.{RowsRoom, RowsReserved}
use Rattle.grammar.proofs.Room.{rows_reserved}
use Rattle.cursor.specs.declared.stop.Stop.{Stop}
use Rattle.cursor.specs.declared.stop.Stop.TheVariants.{Unexpected, TooDeep, OutOfMemory}
use Rattle.cursor.specs.Told.{RoomLeft}

-- where a word is not the one that is asked for, the tables still have their memory
pub room_stop : (V : Type 0) (limit more : ℕ) (rows : Rows) (left : Type 0) (e : Stop) → e ≡ Unexpected → RowsRoom limit more rows → RoomLeft {V = V} (Err e) left (RowsReserved limit rows)
room_stop V limit more rows left e is r = subst (λ x. RoomLeft {V = V} (Err x) left (RowsReserved limit rows)) (sym is) (rows_reserved limit more rows r)

-- a reader that stops has left them their memory
pub stop_reserved : (V room reserved : Type 0) (stop : Stop) → RoomLeft {V = V} (Err stop) room reserved → reserved
stop_reserved V room reserved Unexpected r = r
stop_reserved V room reserved TooDeep r = r
stop_reserved V room reserved OutOfMemory r = absurd r
