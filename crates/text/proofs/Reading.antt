-- What the parts of reading tell of a text, and of the tables. Assumes nothing.
use Rattle.std.proofs.Common.{◌≡◌, ◌∙◌, ℕ, ◌≤◌, List, [], length, Option, Some, None, false, sym, ap, subst, refl, arith}
use Rattle.std.proofs.lemmas.Bool.Decides.{nat_tests}
use Rattle.grammar.specs.Drafts.{DraftLists}
use Rattle.drafts.specs.Parsed.{Drafted, FewRows}
use Rattle.least.specs.declared.rule.RuleFault.{RuleFault}
use Rattle.least.specs.Order.{least}
use Rattle.least.proofs.Leasts.{least_none, least_some}
use Rattle.symbols.specs.Items.{most_symbols}
use Rattle.rules.specs.Targets.{most_targets}
use Rattle.rules.specs.Nodes.{most_nodes}
use Rattle.rules.specs.Steps.{most_steps, most_statements, most_exits}
use Rattle.rules.specs.declared.measures.BitString.{BitString}
use Rattle.rules.specs.Strings.{strings}
use Rattle.rules.specs.Faults.{faults, node_widths}
use Rattle.rules.specs.Room.{FewMeasured}
use Rattle.database.specs.declared.tables.Counts.{Counts}
use Rattle.database.specs.Rows.{Database, counts_of}
use Rattle.database.specs.Saying.{database_of, rows_by}
use Rattle.database.specs.Soundness.{Few}
use Rattle.database.specs.Tables.{TableLists, is_short, Fits, fitting, Holds}
use Rattle.database.proofs.Fills.{all_fitting}
use Rattle.soundness.proofs.Few.{few}
use Rattle.soundness.proofs.Sound.{accepted_are_sound}
use Rattle.text.specs.Promise.{Breaks, Reads}

-- tables that are not short have so many rows
record Long (t : TableLists) : Type 0 where
  symbols : most_symbols ≤ length t.symbols
  steps : most_steps ≤ length t.steps
  statements : most_statements ≤ length t.statements
  targets : most_targets ≤ length t.targets
  exits : most_exits ≤ length t.exits
  nodes : most_nodes ≤ length t.nodes

long : (t : TableLists) → is_short t ≡ false → Long t
long t e = record {
  symbols = grind (arith, nat_tests);
  steps = grind (arith, nat_tests);
  statements = grind (arith, nat_tests);
  targets = grind (arith, nat_tests);
  exits = grind (arith, nat_tests);
  nodes = grind (arith, nat_tests);
}

-- the database of a draft without faults fits them
fits : (database : Database) (t : TableLists) → Few database → Long t → Fits database t
fits database t f l = record {
  symbols = omega (arith, f.symbols, l.symbols);
  steps = omega (arith, f.steps, l.steps);
  statements = omega (arith, f.statements, l.statements);
  targets = omega (arith, f.targets, l.targets);
  exits = omega (arith, f.exits, l.exits);
  nodes = omega (arith, f.nodes, l.nodes);
}

-- a draft with few rows has few of each kind that is measured
pub few_measured : (limit : ℕ) (draft : DraftLists) → FewRows limit draft → FewMeasured limit draft
few_measured limit draft f = record { targets = f.targets; digits = f.digits; nodes = f.nodes; exits = f.exits }

-- what is told of the faults of a draft is that its text breaks a rule
pub breaks : (text : List ℕ) (draft : DraftLists) (fault : RuleFault) → Drafted text draft → Some fault ≡ least (faults text draft) → Breaks text fault
breaks text draft fault drafted e = record { draft = draft; drafted = drafted; least = least_some (faults text draft) fault (sym e) }

-- where nothing is told of them, its database fits tables that are not short
fits_all : (text : List ℕ) (draft : DraftLists) (t : TableLists) → is_short t ≡ false → faults text draft ≡ [] → Fits (database_of text draft) t
fits_all text draft t l none = fits (database_of text draft) t (few text draft none) (long t l)

-- and tables into which the rows of the draft were filled hold what the text says
pub reads : (text : List ℕ) (draft : DraftLists) (strings_by : List BitString) (widths_by : List (Option ℕ)) (counts : Counts) (old new : TableLists) → Drafted text draft
    → is_short old ≡ false → None ≡ least (faults text draft) → strings_by ≡ strings draft.rows.terms.digits → widths_by ≡ node_widths text draft
    → counts ≡ counts_of (rows_by text draft strings_by widths_by) → Holds (fitting old (rows_by text draft strings_by widths_by)) old new → Reads text counts old new
unfolding database_of
reads text draft strings_by widths_by counts old new drafted l e strings_are widths_are counted holds =
    let none = least_none (faults text draft) (sym e) in
    let all : fitting old (database_of text draft) ≡ database_of text draft = all_fitting (database_of text draft) old (fits_all text draft old l none) in
    let said : rows_by text draft strings_by widths_by ≡ database_of text draft = λ i. rows_by text draft (strings_are i) (widths_are i) in
    record {
      long = l;
      database = database_of text draft;
      says = record { draft = draft; drafted = drafted; faultless = none; rows = refl };
      sound = accepted_are_sound text draft drafted none;
      counted = counted ∙ ap counts_of said;
      holds = subst (λ d. Holds d old new) (ap (fitting old) said ∙ all) holds;
    }
