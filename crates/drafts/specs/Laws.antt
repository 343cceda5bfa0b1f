-- That each text has one answer. Assumes nothing.
use Rattle.std.specs.Prelude.{◌≡◌, ◌⊎◌, ℕ, List}
use Rattle.grammar.specs.Drafts.{DraftLists}
use Rattle.drafts.specs.declared.faults.DraftFault.{DraftFault}
use Rattle.drafts.specs.Parsed.{Drafted, Undrafted}

-- each text has a draft or a fault
abbrev pub SomeAnswer : Type 0
SomeAnswer = (text : List ℕ) → ((draft : DraftLists) × Drafted text draft) ⊎ ((fault : DraftFault) × Undrafted text fault)

-- it has one draft at most
abbrev pub OneDraft : Type 0
OneDraft = (text : List ℕ) (draft other : DraftLists) → Drafted text draft → Drafted text other → draft ≡ other

-- it has one fault at most
abbrev pub OneFault : Type 0
OneFault = (text : List ℕ) (fault other : DraftFault) → Undrafted text fault → Undrafted text other → fault ≡ other

-- it does not have both
abbrev pub NotBoth : Type 0
NotBoth = (text : List ℕ) (draft : DraftLists) (fault : DraftFault) → Drafted text draft → Undrafted text fault → ⊥

abbrev pub DraftLaws : Type 0
DraftLaws = SomeAnswer × OneDraft × OneFault × NotBoth
