-- What private functions of the reader promise one another; no public contract cites it. Assumes nothing.
use Rattle.std.specs.Prelude.{ℕ, List}
use Rattle.words.specs.declared.token.Token.{Token}
use Rattle.grammar.specs.Promise.{FirstWrong, FirstDeep}
use Rattle.cursor.specs.declared.stop.Stop.{Stop}
use Rattle.cursor.specs.declared.stop.Stop.TheVariants.{Unexpected as Wrong, TooDeep as Deep, OutOfMemory as NoMemory}
use Rattle.drafts.specs.declared.faults.DraftFault.{DraftFault}
use Rattle.drafts.specs.declared.faults.DraftFault.TheVariants.{OutOfMemory, LongText, Word, Unexpected, TooDeep}
use Rattle.drafts.specs.Parsed.{StopsAt}

-- Why the words of a text of so many bytes are no module's: the place of the first wrong word or, where the text ends early, of
-- its end; or the place of the sign that opens the seventeenth nesting. For want of memory the rest of a text may stay unread.
abbrev pub IsStopped : List Token → ℕ → DraftFault → Type 0
IsStopped tokens bytes OutOfMemory = Unit {0}
IsStopped tokens bytes LongText = ⊥
IsStopped tokens bytes (Word fault) = ⊥
IsStopped tokens bytes (Unexpected place) = StopsAt FirstWrong tokens bytes place
IsStopped tokens bytes (TooDeep place) = StopsAt FirstDeep tokens bytes place

-- the fault where reading stopped
abbrev pub stop_fault : Stop → ℕ → DraftFault
stop_fault Wrong p = Unexpected p
stop_fault Deep p = TooDeep p
stop_fault NoMemory p = OutOfMemory
