-- What the user is told of each fault of reading. Assumes nothing.
use Rattle.std.specs.Prelude.{ℕ, List, codes}
use Rattle.fault.specs.Print.{refusal_line}
use Rattle.fault.specs.declared.Layer.TheVariants.{Text}
use Rattle.fault.specs.declared.Refusal.{Refusal}
use Rattle.least.specs.Order.{rule_number}
use Rattle.drafts.specs.declared.faults.DraftFault.{DraftFault}
use Rattle.drafts.specs.declared.faults.DraftFault.TheVariants.{OutOfMemory as NoMemory, LongText, Word, Unexpected, TooDeep}
use Rattle.drafts.specs.Faults.{draft_told, fault_line as draft_line}
use Rattle.text.specs.declared.faults.ReadFault.{ReadFault}
use Rattle.text.specs.declared.faults.ReadFault.TheVariants.{OutOfMemory, ShortTable, Draft, Rule}

-- number, place and layer of each case
abbrev pub read_told : ReadFault → Refusal
read_told OutOfMemory = record { number = 0; place = 0; layer = Text }
read_told ShortTable = record { number = 1; place = 0; layer = Text }
read_told (Draft f) = draft_told f
read_told (Rule f) = record { number = rule_number f.rule; place = f.place; layer = Text }

-- what is printed of each case
abbrev pub fault_line : ReadFault → List ℕ
fault_line OutOfMemory = codes "no memory for a reader of module texts"
fault_line ShortTable = refusal_line (read_told ShortTable)
fault_line (Draft f) = draft_line f
fault_line (Rule f) = refusal_line (read_told (Rule f))

-- a fault of the draft, as one of reading
abbrev pub from_draft : DraftFault → ReadFault
from_draft NoMemory = OutOfMemory
from_draft LongText = Draft LongText
from_draft (Word f) = Draft (Word f)
from_draft (Unexpected p) = Draft (Unexpected p)
from_draft (TooDeep p) = Draft (TooDeep p)
