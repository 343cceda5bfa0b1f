-- The parts of an expression. Assumes nothing.
use Rattle.std.specs.Prelude.{ℕ, Option, Some, None}
use Rattle.words.specs.declared.token.Sign.TheVariants.{Backslash, Dollar}
use Rattle.grammar.specs.declared.draft.Form.{Form}
use Rattle.grammar.specs.declared.draft.Form.TheVariants.{Not, Reduce}
use Rattle.grammar.specs.declared.draft.Gate.{Gate}
use Rattle.grammar.specs.declared.draft.Gate.TheVariants.{And, Or, Xor}
use Rattle.grammar.specs.Rules.{Rule, group, mark, integer, ◌then◌, part, integers, ref, prefix_sign}
use Rattle.grammar.specs.Trees.{Tree, mark_at, left, right}
use Rattle.grammar.specs.Drafts.{TermLists, primary_rows}
use Rattle.terms.specs.declared.expressions.PrefixSign.{PrefixSign}

-- \ list \
abbrev pub string_rule : Rule
string_rule = mark Backslash then integers then mark Backslash

-- integer $ integer
abbrev pub sized_rule : Rule
sized_rule = integer then mark Dollar then integer

-- the rows of each kind of primary
abbrev pub bits_rows : Tree ref → Option ℕ → TermLists → TermLists
bits_rows r = primary_rows (left r)

abbrev pub string_rows : Tree string_rule → Option ℕ → TermLists → TermLists
string_rows s = primary_rows (right (left s))

abbrev pub sized_rows : Tree sized_rule → Option ℕ → TermLists → TermLists
sized_rows c = primary_rows (right (right (left c)))

abbrev pub group_rows : Tree (part group) → Option ℕ → TermLists → TermLists
group_rows g = primary_rows (right (right (right g)))

-- a prefix sign, and the form of its node over an operand
abbrev pub sign_of : Tree prefix_sign → PrefixSign
sign_of (left (mark_at p)) = record { place = p; gate = None }
sign_of (right (left (mark_at p))) = record { place = p; gate = Some And }
sign_of (right (right (left (mark_at p)))) = record { place = p; gate = Some Or }
sign_of (right (right (right (mark_at p)))) = record { place = p; gate = Some Xor }

abbrev pub reduce_form : Option Gate → ℕ → Form
reduce_form None k = Not k
reduce_form (Some g) k = Reduce g k

abbrev pub form_of : PrefixSign → ℕ → Form
form_of s = reduce_form s.gate
