-- A draft without faults has no more rows than the tables. Assumes nothing.
use Rattle.std.proofs.Common.{◌≡◌, ℕ, ◌≤◌, List, [], ◌++◌, length, sym, ap, ◌∙◌}
use Rattle.least.specs.declared.rule.RuleFault.{RuleFault}
use Rattle.least.specs.Each.{each, grown}
use Rattle.grammar.specs.Drafts.{DraftLists}
use Rattle.symbols.specs.Items.{redeclared, width_faults, overflows, too_many_bits, item_faults, items_faults, most_symbols}
use Rattle.rules.specs.Targets.{most_targets, own_faults, target_faults, targets_faults, side_up_to}
use Rattle.rules.specs.Strings.{digits_faults}
use Rattle.rules.specs.Nodes.{most_nodes, form_faults, node_faults, nodes_faults, node_width}
use Rattle.rules.specs.Steps.{most_steps, most_statements, most_exits, missing, exit_faults, exits_faults, statement_faults, statements_faults, condition_faults, branch_faults, step_faults, steps_faults, resets_faults}
use Rattle.rules.specs.Faults.{known, node_widths, exit_counts, faults}
use Rattle.database.specs.Saying.{database_of}
use Rattle.database.specs.Soundness.{Few}
use Rattle.soundness.proofs.Nil.{nil_left, nil_right, length_grown, few as bounded}

-- where the faults go by what was grown from the elements before
grown_bounded : {A B : Type 0} (f : List B → A → List RuleFault) (grow : List B → A → B) (size : ℕ) (place : A → ℕ) →
    ((before : List B) (x : A) → f before x ≡ [] → overflows (length before) size (place x) ≡ []) → (xs : List A) → each (λ before x. f (grown grow before) x) xs ≡ [] → length xs ≤ size
grown_bounded f grow size place o xs e =
    bounded (λ before x. f (grown grow before) x) xs size place (λ before x n. ap (λ k. overflows k size (place x)) (sym (length_grown grow before)) ∙ o (grown grow before) x n) e

-- a draft has no fault of any kind
pub record Faultless (text : List ℕ) (d : DraftLists) : Type 0 where
  pub items : items_faults text d.rows.items ≡ []
  pub targets : targets_faults text d.rows.items d.rows.statements d.rows.targets ≡ []
  pub digits : digits_faults d.rows.terms.digits ≡ []
  pub nodes : nodes_faults (known text d) d.rows.terms.nodes ≡ []
  pub statements : statements_faults (known text d).sides (node_widths text d) d.rows.statements ≡ []
  pub exits : exits_faults d.rows.steps d.rows.exits ≡ []
  pub steps : steps_faults (node_widths text d) (exit_counts d) d.rows.steps ≡ []

module _ (text : List ℕ) (d : DraftLists) (none : faults text d ≡ []) where
  pub faultless : Faultless text d
  faultless =
      let a = items_faults text d.rows.items in
      let b = redeclared text d.rows.items d.heading.clock in
      let c = targets_faults text d.rows.items d.rows.statements d.rows.targets in
      let e = digits_faults d.rows.terms.digits in
      let f = nodes_faults (known text d) d.rows.terms.nodes in
      let g = statements_faults (known text d).sides (node_widths text d) d.rows.statements in
      let h = exits_faults d.rows.steps d.rows.exits in
      let i = steps_faults (node_widths text d) (exit_counts d) d.rows.steps in
      let j = resets_faults d.rows.steps d.rows.resets in
      let n8 = nil_left (a ++ b ++ c ++ e ++ f ++ g ++ h ++ i) j none in
      let n7 = nil_left (a ++ b ++ c ++ e ++ f ++ g ++ h) i n8 in
      let n6 = nil_left (a ++ b ++ c ++ e ++ f ++ g) h n7 in
      let n5 = nil_left (a ++ b ++ c ++ e ++ f) g n6 in
      let n4 = nil_left (a ++ b ++ c ++ e) f n5 in
      let n3 = nil_left (a ++ b ++ c) e n4 in
      let n2 = nil_left (a ++ b) c n3 in
      record {
        items = nil_left a b n2;
        targets = nil_right (a ++ b) c n3;
        digits = nil_right (a ++ b ++ c) e n4;
        nodes = nil_right (a ++ b ++ c ++ e) f n5;
        statements = nil_right (a ++ b ++ c ++ e ++ f) g n6;
        exits = nil_right (a ++ b ++ c ++ e ++ f ++ g) h n7;
        steps = nil_right (a ++ b ++ c ++ e ++ f ++ g ++ h) i n8;
      }

  few_items : length d.rows.items ≤ most_symbols
  few_items = bounded (item_faults text) d.rows.items most_symbols (λ x. x.name.place)
      (λ before x n. nil_right (redeclared text before x.name ++ width_faults x.width) (overflows (length before) most_symbols x.name.place) (nil_left _ (too_many_bits before x) n))
      faultless.items

  few_targets : length d.rows.targets ≤ most_targets
  few_targets = grown_bounded (target_faults text d.rows.items d.rows.statements) (side_up_to text d.rows.items d.rows.statements) most_targets (λ t. t.reference.name.place)
      (λ before t n. nil_right _ (overflows (length before) most_targets t.reference.name.place) (nil_left (own_faults text d.rows.items d.rows.statements (length before) t) _ n))
      d.rows.targets faultless.targets

  few_nodes : length d.rows.terms.nodes ≤ most_nodes
  few_nodes = grown_bounded (node_faults (known text d)) (node_width (known text d)) most_nodes (λ n. n.place)
      (λ before n e. nil_right (form_faults (known text d) before n n.form) (overflows (length before) most_nodes n.place) e)
      d.rows.terms.nodes faultless.nodes

  few_statements : length d.rows.statements ≤ most_statements
  few_statements = bounded (λ before s. statement_faults (known text d).sides (node_widths text d) (length before) s) d.rows.statements most_statements (λ s. s.place)
      (λ before s e. nil_left (overflows (length before) most_statements s.place) _ (nil_left (overflows (length before) most_statements s.place ++ condition_faults (node_widths text d) s.condition) _ e))
      faultless.statements

  few_exits : length d.rows.exits ≤ most_exits
  few_exits = bounded (λ before e. exit_faults d.rows.steps (length before) e) d.rows.exits most_exits (λ e. e.entered.integer.place)
      (λ before e n. nil_right (missing d.rows.steps e.entered.integer) (overflows (length before) most_exits e.entered.integer.place) n)
      faultless.exits

  few_steps : length d.rows.steps ≤ most_steps
  few_steps = bounded (λ before s. step_faults (node_widths text d) (exit_counts d) (length d.rows.steps) (length before) s) d.rows.steps most_steps (λ s. s.integer.place)
      (λ before s e. nil_right _ (overflows (length before) most_steps s.integer.place) (nil_left (_ ++ overflows (length before) most_steps s.integer.place) (branch_faults (node_widths text d) (exit_counts d) s.leaving) e))
      faultless.steps

  pub few : Few (database_of text d)
  unfolding database_of
  few = record {
    symbols = rw length_grown few_items;
    steps = rw length_grown few_steps;
    statements = rw length_grown few_statements;
    targets = rw length_grown few_targets;
    exits = rw length_grown few_exits;
    nodes = rw length_grown few_nodes;
  }
