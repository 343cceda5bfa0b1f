-- References: which symbol, and which of its bits. Assumes nothing.
use Rattle.std.specs.Prelude.{ℕ, ◌+◌, ◌-◌, Bool, true, false, cond, not, ◌||◌, List, [], ◌++◌, is_some, Option, Some, None, nat_le, nat_lt, get_or}
use Rattle.grammar.specs.declared.draft.Class.{Class}
use Rattle.grammar.specs.declared.draft.Class.TheVariants.{Input, Output, Memory, Bus}
use Rattle.grammar.specs.declared.draft.Item.{Item}
use Rattle.grammar.specs.declared.draft.Name.{Name}
use Rattle.grammar.specs.declared.draft.Reference.{Reference}
use Rattle.grammar.specs.declared.draft.Subscript.{Subscript}
use Rattle.least.specs.declared.rule.Rule.TheVariants.{Undeclared, OffEnds, BusOrder}
use Rattle.least.specs.declared.rule.RuleFault.{RuleFault}
use Rattle.least.specs.Order.{fault_if}
use Rattle.symbols.specs.declared.references.Standing.{Standing}
use Rattle.symbols.specs.declared.references.Standing.TheVariants.{Read, Loaded, Driven}
use Rattle.symbols.specs.Names.{index_of}
use Rattle.symbols.specs.Items.{declared_width}

-- inputs, memory and buses are read; transfers load memory; connections drive buses and outputs
abbrev pub may_stand : Standing → Class → Bool
may_stand Read Input = true
may_stand Read Output = false
may_stand Read Memory = true
may_stand Read Bus = true
may_stand Loaded Input = false
may_stand Loaded Output = false
may_stand Loaded Memory = true
may_stand Loaded Bus = false
may_stand Driven Input = false
may_stand Driven Output = true
may_stand Driven Memory = false
may_stand Driven Bus = true

abbrev pub is_bus : Class → Bool
is_bus Input = false
is_bus Output = false
is_bus Memory = false
is_bus Bus = true

-- the item with that index, from 0
abbrev pub item_at : List Item → ℕ → Item
item_at items k = get_or items k (record { class = Input; name = record { place = 0; len = 0 }; width = None })

-- the item found, if it may stand there
abbrev pub standing_at : List Item → Standing → Option ℕ → Option ℕ
standing_at items s None = None
standing_at items s (Some k) = cond (may_stand s (item_at items k).class) (Some k) None

-- the symbol that a name stands for there, by its index from 0
abbrev pub symbol_at : List ℕ → List Item → Standing → Name → Option ℕ
symbol_at text items s n = standing_at items s (index_of text n items)

-- its width; and its index again, if it is a bus
abbrev pub symbol_width : List Item → Option ℕ → Option ℕ
symbol_width items None = None
symbol_width items (Some k) = declared_width (item_at items k)

abbrev pub bus_of : List Item → Option ℕ → Option ℕ
bus_of items None = None
bus_of items (Some k) = cond (is_bus (item_at items k).class) (Some k) None

-- the bus that is read is not declared before the first that is driven, if there are both
abbrev pub is_late : Option ℕ → Option ℕ → Bool
is_late None bus = false
is_late (Some first) None = false
is_late (Some first) (Some k) = nat_le first k

-- 11: at [, the subscript leaves the width or runs backwards
abbrev pub subscript_faults : Option ℕ → Option Subscript → List RuleFault
subscript_faults None s = []
subscript_faults (Some w) None = []
subscript_faults (Some w) (Some s) = fault_if (nat_lt s.last s.first || nat_le w s.last) s.place OffEnds

-- the width of the bits
abbrev pub bits_width : Option ℕ → Option Subscript → Option ℕ
bits_width None s = None
bits_width (Some w) None = Some w
bits_width (Some w) (Some s) = Some (s.last - s.first + 1)

-- The faults of a reference whose name stands for that symbol. Of the buses that its statement drives, if any, `first` is declared
-- first. 10: there is no symbol; 14: it is a bus that may not be read yet; 11.
abbrev pub faults_of : List Item → Option ℕ → Reference → Option ℕ → List RuleFault
faults_of items first r found =
    fault_if (not (is_some found)) r.name.place Undeclared
    ++ fault_if (is_late first (bus_of items found)) r.name.place BusOrder
    ++ subscript_faults (symbol_width items found) r.subscript

abbrev pub reference_faults : List ℕ → List Item → Standing → Option ℕ → Reference → List RuleFault
reference_faults text items s first r = faults_of items first r (symbol_at text items s r.name)

-- how many bits it names
abbrev pub reference_width : List ℕ → List Item → Standing → Reference → Option ℕ
reference_width text items s r = bits_width (symbol_width items (symbol_at text items s r.name)) r.subscript
