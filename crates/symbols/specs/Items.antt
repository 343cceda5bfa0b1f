-- Declarations: what they declare, and their faults. Assumes nothing.
use Rattle.std.specs.Prelude.{ℕ, ◌+◌, Bool, cond, not, ◌&&◌, List, [], ◌++◌, length, is_some, Option, Some, None, sum_by, ◌==◌, nat_le, nat_lt}
use Rattle.grammar.specs.declared.draft.Item.{Item}
use Rattle.grammar.specs.declared.draft.Name.{Name}
use Rattle.grammar.specs.declared.draft.Number.{Number}
use Rattle.least.specs.declared.rule.Rule.TheVariants.{Redeclared, OutOfRange, Overflow}
use Rattle.least.specs.declared.rule.RuleFault.{RuleFault}
use Rattle.least.specs.Order.{fault_if}
use Rattle.least.specs.Each.{each}
use Rattle.symbols.specs.Names.{index_of}

-- how wide a side may be, how many symbols and how many declared bits there may be
abbrev pub most_bits : ℕ
most_bits = 32

abbrev pub most_symbols : ℕ
most_symbols = 64

abbrev pub most_declared_bits : ℕ
most_declared_bits = 1024

-- a width is 1 to 32
abbrev pub is_width : ℕ → Bool
is_width n = nat_le 1 n && nat_le n most_bits

-- the width that is written: a name alone declares one bit
abbrev pub written : Option Number → ℕ
written None = 1
written (Some n) = n.value

-- the width that an item declares, if it is one; what is no width declares no bits
abbrev pub declared_width : Item → Option ℕ
declared_width x = cond (is_width (written x.width)) (Some (written x.width)) None

abbrev pub declared_bits : Item → ℕ
declared_bits x = cond (is_width (written x.width)) (written x.width) 0

-- 8: the name is declared already
abbrev pub redeclared : List ℕ → List Item → Name → List RuleFault
redeclared text before n = fault_if (is_some (index_of text n before)) n.place Redeclared

-- 9: at the integer, it is no width
abbrev pub no_width : Number → List RuleFault
no_width n = fault_if (not (is_width n.value)) n.place OutOfRange

abbrev pub width_faults : Option Number → List RuleFault
width_faults None = []
width_faults (Some n) = no_width n

-- 16: the row is the first beyond a table's size, so many rows standing before it
abbrev pub overflows : ℕ → ℕ → ℕ → List RuleFault
overflows rows size place = fault_if (rows == size) place Overflow

-- 16: the item is the first by which the declared bits pass 1,024
abbrev pub too_many_bits : List Item → Item → List RuleFault
too_many_bits before x =
    fault_if (nat_le (sum_by declared_bits before) most_declared_bits && nat_lt most_declared_bits (sum_by declared_bits before + declared_bits x)) x.name.place Overflow

-- the faults of an item behind others
abbrev pub item_faults : List ℕ → List Item → Item → List RuleFault
item_faults text before x =
    redeclared text before x.name ++ width_faults x.width ++ overflows (length before) most_symbols x.name.place ++ too_many_bits before x

abbrev pub items_faults : List ℕ → List Item → List RuleFault
items_faults text items = each (item_faults text) items
