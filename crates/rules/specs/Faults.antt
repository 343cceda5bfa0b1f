-- All faults of a module, as a list in no order that matters: what is told is the least of them. Assumes nothing.
use Rattle.std.specs.Prelude.{ℕ, List, ◌++◌, Option}
use Rattle.grammar.specs.Drafts.{DraftLists}
use Rattle.least.specs.declared.rule.RuleFault.{RuleFault}
use Rattle.symbols.specs.Items.{redeclared, items_faults}
use Rattle.rules.specs.Targets.{sides, targets_faults}
use Rattle.rules.specs.Strings.{strings, digits_faults}
use Rattle.rules.specs.Nodes.{Known, widths, nodes_faults}
use Rattle.rules.specs.Steps.{counts, statements_faults, exits_faults, steps_faults, resets_faults}

-- what the nodes of a draft are judged by
abbrev pub known : List ℕ → DraftLists → Known
known text d = record {
  text = text;
  items = d.rows.items;
  sides = sides text d.rows.items d.rows.statements d.rows.targets;
  strings = strings d.rows.terms.digits;
}

-- the widths of its nodes
abbrev pub node_widths : List ℕ → DraftLists → List (Option ℕ)
node_widths text d = widths (known text d) d.rows.terms.nodes

-- how many integers the list of each exit has up to it
abbrev pub exit_counts : DraftLists → List (Option ℕ)
exit_counts d = counts d.rows.steps d.rows.exits

-- the faults of a draft, whose names are parts of the text
abbrev pub faults : List ℕ → DraftLists → List RuleFault
faults text d =
    items_faults text d.rows.items
    ++ redeclared text d.rows.items d.heading.clock
    ++ targets_faults text d.rows.items d.rows.statements d.rows.targets
    ++ digits_faults d.rows.terms.digits
    ++ nodes_faults (known text d) d.rows.terms.nodes
    ++ statements_faults (known text d).sides (node_widths text d) d.rows.statements
    ++ exits_faults d.rows.steps d.rows.exits
    ++ steps_faults (node_widths text d) (exit_counts d) d.rows.steps
    ++ resets_faults d.rows.steps d.rows.resets
