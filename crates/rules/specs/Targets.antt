-- The targets of statements: their faults, and the sides that they make. Assumes nothing.
use Rattle.std.specs.Prelude.{ℕ, min, List, ◌++◌, map, length, Option, Some, None}
use Rattle.grammar.specs.declared.draft.Item.{Item}
use Rattle.grammar.specs.declared.draft.Target.{Target}
use Rattle.grammar.specs.declared.draft.StatementKind.{StatementKind}
use Rattle.grammar.specs.declared.draft.StatementKind.TheVariants.{Connection, Transfer}
use Rattle.grammar.specs.declared.draft.Statement.{Statement}
use Rattle.least.specs.declared.rule.RuleFault.{RuleFault}
use Rattle.least.specs.Each.{each, grown, row_at, last_of}
use Rattle.symbols.specs.declared.references.Standing.{Standing}
use Rattle.symbols.specs.declared.references.Standing.TheVariants.{Loaded, Driven}
use Rattle.symbols.specs.Items.{overflows}
use Rattle.symbols.specs.Widths.{unless_faulty, comma_faults, width_up_to}
use Rattle.symbols.specs.References.{symbol_at, bus_of, reference_faults, reference_width}
use Rattle.rules.specs.declared.measures.Side.{Side}

abbrev pub most_targets : ℕ
most_targets = 512

-- how the targets of a statement stand: by the kind of the statement in that row
abbrev pub standing_by : StatementKind → Standing
standing_by Connection = Driven
standing_by Transfer = Loaded

abbrev pub target_standing : List Statement → Target → Standing
target_standing statements t = standing_by (row_at Connection (map (λ s. s.kind) statements) t.statement)

-- before the first target
abbrev pub no_side : Side
no_side = record { width = None; bus = None }

-- the earlier of two buses, where either may be none
abbrev pub earlier : Option ℕ → Option ℕ → Option ℕ
earlier None b = b
earlier (Some a) None = Some a
earlier (Some a) (Some b) = Some (min a b)

abbrev pub bus_up_to : Option ℕ → Option ℕ → Option ℕ → Option ℕ
bus_up_to None before own = own
bus_up_to (Some place) before own = earlier before own

-- a target's own faults: those of its reference, and 16 at the first target beyond the table
abbrev pub own_faults : List ℕ → List Item → List Statement → ℕ → Target → List RuleFault
own_faults text items statements rows t =
    reference_faults text items (target_standing statements t) None t.reference ++ overflows rows most_targets t.reference.name.place

abbrev pub own_width : List ℕ → List Item → List Statement → ℕ → Target → Option ℕ
own_width text items statements rows t =
    unless_faulty (own_faults text items statements rows t) (reference_width text items (target_standing statements t) t.reference)

abbrev pub own_bus : List ℕ → List Item → List Statement → Target → Option ℕ
own_bus text items statements t = bus_of items (symbol_at text items (target_standing statements t) t.reference.name)

-- the side up to a target, from the sides up to those before it
abbrev pub side_up_to : List ℕ → List Item → List Statement → List Side → Target → Side
side_up_to text items statements before t = record {
  width = width_up_to t.comma (last_of no_side before).width (own_width text items statements (length before) t);
  bus = bus_up_to t.comma (last_of no_side before).bus (own_bus text items statements t);
}

abbrev pub sides : List ℕ → List Item → List Statement → List Target → List Side
sides text items statements targets = grown (side_up_to text items statements) targets

-- a target's faults: its own, and 12 at the comma before it
abbrev pub target_faults : List ℕ → List Item → List Statement → List Side → Target → List RuleFault
target_faults text items statements before t =
    own_faults text items statements (length before) t
    ++ comma_faults t.comma (last_of no_side before).width (own_width text items statements (length before) t)

abbrev pub targets_faults : List ℕ → List Item → List Statement → List Target → List RuleFault
targets_faults text items statements targets = each (λ before t. target_faults text items statements (sides text items statements before) t) targets
