-- That each text has one answer. Assumes nothing.
use Rattle.std.specs.Prelude.{◌≡◌, ◌⊎◌, ℕ, Bool, false, List}
use Rattle.database.specs.Rows.{Database}
use Rattle.text.specs.declared.faults.ReadFault.{ReadFault}
use Rattle.text.specs.Promise.{Says, Refused}

-- Where no table is too short: each text says a database, or is refused.
abbrev pub SomeAnswer : Type 0
SomeAnswer = (text : List ℕ) → ((database : Database) × Says text database) ⊎ ((fault : ReadFault) × Refused false text fault)

-- it says one database at most
abbrev pub OneDatabase : Type 0
OneDatabase = (text : List ℕ) (database other : Database) → Says text database → Says text other → database ≡ other

-- it is refused by one fault at most
abbrev pub OneFault : Type 0
OneFault = (short : Bool) (text : List ℕ) (fault other : ReadFault) → Refused short text fault → Refused short text other → fault ≡ other

-- it does not both say a database and be refused
abbrev pub NotBoth : Type 0
NotBoth = (text : List ℕ) (database : Database) (fault : ReadFault) → Says text database → Refused false text fault → ⊥

abbrev pub ReadLaws : Type 0
ReadLaws = SomeAnswer × OneDatabase × OneFault × NotBoth
