-- Nodes of expressions: their faults, and their widths. Assumes nothing.
use Rattle.std.specs.Prelude.{ℕ, ◌+◌, max, List, [], ◌++◌, length, Option, Some, None, option_map}
use Rattle.grammar.specs.declared.draft.Item.{Item}
use Rattle.grammar.specs.declared.draft.Form.{Form}
use Rattle.grammar.specs.declared.draft.Form.TheVariants.{Bits, Literal, Sized, Comma, Join, Not, Reduce}
use Rattle.grammar.specs.declared.draft.Node.{Node}
use Rattle.least.specs.declared.rule.RuleFault.{RuleFault}
use Rattle.least.specs.Each.{each, grown, row_at}
use Rattle.symbols.specs.declared.references.Standing.TheVariants.{Read}
use Rattle.symbols.specs.Items.{no_width, overflows}
use Rattle.symbols.specs.Widths.{unless_faulty, both, disagree, wide, unlike, width_at}
use Rattle.symbols.specs.References.{reference_faults, reference_width}
use Rattle.rules.specs.declared.measures.Side.{Side}
use Rattle.rules.specs.declared.measures.BitString.{BitString}
use Rattle.rules.specs.Targets.{no_side}
use Rattle.rules.specs.Strings.{string_at}

abbrev pub most_nodes : ℕ
most_nodes = 512

-- what nodes are judged by: the text, the items, the sides of the targets and the bit strings
pub record Known : Type 0 where
  pub text : List ℕ
  pub items : List Item
  pub sides : List Side
  pub strings : List BitString

-- the first bus that a node's statement drives, by the row of its last target
abbrev pub first_bus : List Side → Option ℕ → Option ℕ
first_bus sides None = None
first_bus sides (Some n) = (row_at no_side sides n).bus

-- what is wrong with a node of that form, from the widths of the nodes before it
abbrev pub form_faults : Known → List (Option ℕ) → Node → Form → List RuleFault
form_faults k widths n (Bits r) = reference_faults k.text k.items Read (first_bus k.sides n.driven) r
form_faults k widths n (Literal d) = []
form_faults k widths n (Sized w m) = no_width w
form_faults k widths n (Comma a b) = disagree wide n.place (width_at widths a) (width_at widths b)
form_faults k widths n (Join g a b) = disagree unlike n.place (width_at widths a) (width_at widths b)
form_faults k widths n (Not a) = []
form_faults k widths n (Reduce g a) = []

-- the width that the form makes
abbrev pub form_width : Known → List (Option ℕ) → Form → Option ℕ
form_width k widths (Bits r) = reference_width k.text k.items Read r
form_width k widths (Literal d) = (string_at k.strings d).width
form_width k widths (Sized w m) = Some w.value
form_width k widths (Comma a b) = both ◌+◌ (width_at widths a) (width_at widths b)
form_width k widths (Join g a b) = both max (width_at widths a) (width_at widths b)
form_width k widths (Not a) = width_at widths a
form_width k widths (Reduce g a) = option_map (λ _. 1) (width_at widths a)

-- a node's faults: those of its form, and 16 at the first node beyond the table
abbrev pub node_faults : Known → List (Option ℕ) → Node → List RuleFault
node_faults k widths n = form_faults k widths n n.form ++ overflows (length widths) most_nodes n.place

abbrev pub node_width : Known → List (Option ℕ) → Node → Option ℕ
node_width k widths n = unless_faulty (node_faults k widths n) (form_width k widths n.form)

abbrev pub widths : Known → List Node → List (Option ℕ)
widths k nodes = grown (node_width k) nodes

abbrev pub nodes_faults : Known → List Node → List RuleFault
nodes_faults k nodes = each (λ before n. node_faults k (widths k before) n) nodes
