-- That the rows of every accepted text are sound. Assumes nothing.
use Rattle.std.specs.Prelude.{◌≡◌, ℕ, List, [], length}
use Rattle.grammar.specs.Rules.{unit}
use Rattle.grammar.specs.Trees.{Tree}
use Rattle.grammar.specs.Drafts.{DraftLists, draft_of}
use Rattle.drafts.specs.Parsed.{Drafted}
use Rattle.rules.specs.Faults.{faults}
use Rattle.database.specs.Rows.{Database}
use Rattle.database.specs.Saying.{database_of}
use Rattle.database.specs.Tables.{TableLists, Holds}
use Rattle.database.specs.Soundness.{Sound}
use Rattle.soundness.specs.Layout.{Laid, NamesWithin}

abbrev pub AcceptedAreSound : Type 0
AcceptedAreSound = (text : List ℕ) (draft : DraftLists) → Drafted text draft → faults text draft ≡ [] → Sound (length text) (database_of text draft)

-- the rows of a draft lie as they should, whatever the rules say of them
abbrev pub DraftsLaid : Type 0
DraftsLaid = (t : Tree unit) → Laid (draft_of t).rows

-- the names that it declares are parts of the text, one behind the other
abbrev pub NamesLaid : Type 0
NamesLaid = (text : List ℕ) (draft : DraftLists) → Drafted text draft → NamesWithin 0 (length text) draft.rows.items

abbrev pub LayoutLaws : Type 0
LayoutLaws = DraftsLaid × NamesLaid

-- Tables hold one sound database at most, whatever they held before, and however many bytes the text of its names has.
abbrev pub OneHeld : Type 0
OneHeld = (bytes more : ℕ) (d e : Database) (old older new : TableLists) → Sound bytes d → Sound more e → Holds d old new → Holds e older new → d ≡ e
