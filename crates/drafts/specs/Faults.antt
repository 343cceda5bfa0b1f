-- What the user is told of each fault of reading. Assumes nothing.
use Rattle.std.specs.Prelude.{ℕ, List, codes}
use Rattle.fault.specs.Print.{refusal_line}
use Rattle.fault.specs.declared.Layer.TheVariants.{Text}
use Rattle.fault.specs.declared.Refusal.{Refusal}
use Rattle.words.specs.Faults.{word_told}
use Rattle.words.specs.declared.faults.TokensFault.{TokensFault}
use Rattle.words.specs.declared.faults.TokensFault.TheVariants.{OutOfMemory as NoMemory, Word as WordOf}
use Rattle.drafts.specs.declared.faults.DraftFault.{DraftFault}
use Rattle.drafts.specs.declared.faults.DraftFault.TheVariants.{OutOfMemory, LongText, Word, Unexpected, TooDeep}

-- number, place and layer of each case
abbrev pub draft_told : DraftFault → Refusal
draft_told OutOfMemory = record { number = 0; place = 0; layer = Text }
draft_told LongText = record { number = 2; place = 0; layer = Text }
draft_told (Word f) = word_told f
draft_told (Unexpected p) = record { number = 6; place = p; layer = Text }
draft_told (TooDeep p) = record { number = 7; place = p; layer = Text }

-- what is printed of each case
abbrev pub fault_line : DraftFault → List ℕ
fault_line OutOfMemory = codes "no memory for a reader of module texts"
fault_line LongText = refusal_line (draft_told LongText)
fault_line (Word f) = refusal_line (draft_told (Word f))
fault_line (Unexpected p) = refusal_line (draft_told (Unexpected p))
fault_line (TooDeep p) = refusal_line (draft_told (TooDeep p))

-- a fault of the words, as one of reading
abbrev pub from_tokens : TokensFault → DraftFault
from_tokens NoMemory = OutOfMemory
from_tokens (WordOf f) = Word f
