-- What a reader tells, beside what its rule comes to. Assumes nothing.
use Rattle.std.specs.Prelude.{◌≡◌, ℕ, ◌+◌, List, length, Ok, Err, Result, Vec}
use Rattle.words.specs.declared.token.Sign.{Sign}
use Rattle.words.specs.declared.token.Keyword.{Keyword}
use Rattle.words.specs.declared.token.Token.{Token}
use Rattle.grammar.specs.Rules.{mark, keyword}
use Rattle.grammar.specs.Trees.{Tree, mark_at, keyword_at}
use Rattle.grammar.specs.declared.draft.Terms.{Terms}
use Rattle.grammar.specs.declared.draft.Rows.{Rows}
use Rattle.grammar.specs.Reading.{Out, got, wrong, deep}
use Rattle.grammar.specs.Room.{Reserved, HasRoom, TermsReserved, TermsRoom, RowsReserved, RowsRoom}
use Rattle.cursor.specs.declared.stop.Stop.{Stop}
use Rattle.cursor.specs.declared.stop.Stop.TheVariants.{Unexpected, TooDeep, OutOfMemory}

-- the place of a sign, of a keyword
abbrev pub mark_place : {s : Sign} → Tree (mark s) → ℕ
mark_place (mark_at p) = p

abbrev pub keyword_place : {k : Keyword} → Tree (keyword k) → ℕ
keyword_place (keyword_at p) = p

-- it stopped where the rule stops; for want of memory it may stop anywhere
abbrev pub Stopped : {A : Type 0} → Out A → Stop → List Token → Type 0
Stopped o Unexpected rest = o ≡ wrong rest
Stopped o TooDeep rest = o ≡ deep rest
Stopped o OutOfMemory rest = Unit {0}

-- a reader that answers the value f of what it reads
abbrev pub Told : {A V : Type 0} → Out A → (A → V) → Result V Stop → List Token → Type 0
Told {A = A} o f (Ok v) rest = (t : A) × (o ≡ got t rest) × (v ≡ f t)
Told o f (Err e) rest = Stopped o e rest

-- a reader that writes: rows before it become the rows after it by f of what it reads
abbrev pub Wrote : {A V D : Type 0} → Out A → (A → D → D) → D → Result V Stop → List Token → D → Type 0
Wrote {A = A} o f before (Ok v) rest after = (t : A) × (o ≡ got t rest) × (after ≡ f t before)
Wrote o f before (Err e) rest after = Stopped o e rest

-- a reader that does both: it answers a value and writes
abbrev pub Gave : {A V D : Type 0} → Out A → (A → D → V × D) → D → Result V Stop → List Token → D → Type 0
Gave {A = A} o f before (Ok v) rest after = (t : A) × (o ≡ got t rest) × ((v, after) ≡ f t before)
Gave o f before (Err e) rest after = Stopped o e rest

-- A reader of tables that had room for a row for each word left: it did not want memory; where it read something, they
-- have room for a row for each word that is left now, and where it stopped, they still have their memory.
abbrev pub RoomLeft : {V : Type 0} → Result V Stop → Type 0 → Type 0 → Type 0
RoomLeft (Ok v) room reserved = room
RoomLeft (Err Unexpected) room reserved = reserved
RoomLeft (Err TooDeep) room reserved = reserved
RoomLeft (Err OutOfMemory) room reserved = ⊥

-- such a reader of all tables, from the words before it to those after it
abbrev pub RowsRoomKept : {V : Type 0} → Result V Stop → List Token → List Token → Rows → Rows → Type 0
RowsRoomKept result before after old new = (limit slack : ℕ) → RowsRoom limit (length before + slack) old → RoomLeft result (RowsRoom limit (length after + slack) new) (RowsReserved limit new)

-- of the tables of expressions
abbrev pub TermsRoomKept : {V : Type 0} → Result V Stop → List Token → List Token → Terms → Terms → Type 0
TermsRoomKept result before after old new = (limit slack : ℕ) → TermsRoom limit (length before + slack) old → RoomLeft result (TermsRoom limit (length after + slack) new) (TermsReserved limit new)

-- of a single table
abbrev pub ListRoomKept : {A H : Type 0} {V : Type 0} → Result V Stop → List Token → List Token → Vec A H → Vec A H → Type 0
ListRoomKept result before after old new = (limit slack : ℕ) → HasRoom limit (length before + slack) old → RoomLeft result (HasRoom limit (length after + slack) new) (Reserved limit new)
