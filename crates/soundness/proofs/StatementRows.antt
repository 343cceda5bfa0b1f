-- The statements of a draft without faults, and the widths of its nodes. Assumes nothing.
use Rattle.std.proofs.Common.{◌≡◌, ℕ, ◌≤◌, not, ◌==◌, List, [], ◌++◌, length, get_or, map, Option, Some, None, unwrap_or, All, sym, refl, ap, ◌∙◌, subst, inl, inr, arith}
use Rattle.std.proofs.lemmas.Bool.{not-false, eqb-true}
use Rattle.std.proofs.lemmas.List.Elements.{All-map}
use Rattle.grammar.specs.declared.draft.Condition.{Condition}
use Rattle.grammar.specs.declared.draft.Form.{Form}
use Rattle.grammar.specs.declared.draft.Form.TheVariants.{Bits, Literal, Sized, Comma, Join, Not, Reduce}
use Rattle.grammar.specs.declared.draft.Item.{Item}
use Rattle.grammar.specs.declared.draft.Node.{Node}
use Rattle.grammar.specs.declared.draft.Statement.{Statement}
use Rattle.grammar.specs.declared.draft.StatementKind.{StatementKind}
use Rattle.grammar.specs.declared.draft.StatementKind.TheVariants.{Connection, Transfer}
use Rattle.grammar.specs.Drafts.{DraftLists}
use Rattle.least.specs.declared.rule.Rule.TheVariants.{Widths}
use Rattle.least.specs.Each.{row_at, IsRow}
use Rattle.symbols.specs.Items.{overflows}
use Rattle.symbols.specs.Widths.{disagree, unequal, width_at}
use Rattle.rules.specs.declared.measures.BitString.{BitString}
use Rattle.rules.specs.Targets.{no_side}
use Rattle.rules.specs.Strings.{strings}
use Rattle.rules.specs.Steps.{most_statements, condition_faults, statement_faults}
use Rattle.rules.specs.Faults.{known, node_widths, faults}
use Rattle.database.specs.Codes.{statement_code, statement_kind}
use Rattle.database.specs.Rows.{no_statement, no_node, statement, node}
use Rattle.database.specs.Saying.{condition_node, statement_row, statement_rows, step_row, node_row, database_of}
use Rattle.database.specs.Soundness.{IsWidth, StatementBy, StatementSound}
use Rattle.soundness.specs.Layout.{Laid}
use Rattle.soundness.proofs.Nil.{nil_left, nil_right, test_false, length_numbered, row_numbered}
use Rattle.soundness.proofs.Lists.{all_without, each_row, unnumbered}
use Rattle.soundness.proofs.Few.{faultless}
use Rattle.soundness.proofs.Places.{ConditionStands, stand}

-- two widths that agree
pub agree : (place : ℕ) (o p : Option ℕ) (a b : ℕ) → o ≡ Some a → p ≡ Some b → disagree unequal place o p ≡ [] → a ≡ b
agree place None p a b e f h = cc
agree place (Some x) None a b e f h = cc
agree place (Some x) (Some y) a b e f h =
    let t = eqb-true x y (not-false (x == y) (test_false (not (x == y)) place Widths h)) in
    cc

pub statement_kind_is : (k : StatementKind) → statement_kind (statement_code k) ≡ Some k
statement_kind_is Connection = refl
statement_kind_is Transfer = refl

row_width : (text : List ℕ) (items : List Item) (strings : List BitString) (width : ℕ) (f : Form) → (node_row text items strings width f).width ≡ width
row_width text items strings width (Bits r) = refl
row_width text items strings width (Literal d) = refl
row_width text items strings width (Sized n m) = refl
row_width text items strings width (Comma a b) = refl
row_width text items strings width (Join g a b) = refl
row_width text items strings width (Not a) = refl
row_width text items strings width (Reduce g a) = refl

abbrev no_draft_node : Node
no_draft_node = record { place = 0; driven = None; form = Not 0 }

-- each node has a width
abbrev pub WidthsThere : List ℕ → DraftLists → Type 0
WidthsThere text d = (n : ℕ) → IsRow d.rows.terms.nodes n → (w : ℕ) × (width_at (node_widths text d) n ≡ Some w) × IsWidth w

-- a statement where no fault was found
pub record StatementRight (text : List ℕ) (d : DraftLists) (s : Statement) : Type 0 where
  pub condition : condition_faults (node_widths text d) s.condition ≡ []
  pub sides : disagree unequal s.sign (row_at no_side (known text d).sides s.last_target).width (width_at (node_widths text d) s.value) ≡ []

module _ (text : List ℕ) (d : DraftLists) (none : faults text d ≡ []) where
  statement_right : (rows : ℕ) (s : Statement) → statement_faults (known text d).sides (node_widths text d) rows s ≡ [] → StatementRight text d s
  statement_right rows s e =
      let a = overflows rows most_statements s.place in
      let b = condition_faults (node_widths text d) s.condition in
      let c = disagree unequal s.sign (row_at no_side (known text d).sides s.last_target).width (width_at (node_widths text d) s.value) in
      record { condition = nil_right a b (nil_left (a ++ b) c e); sides = nil_right (a ++ b) c e }

  pub statements_right : All (StatementRight text d) d.rows.statements
  statements_right =
      all_without (λ before s. statement_faults (known text d).sides (node_widths text d) (length before) s) (StatementRight text d) (λ before s e. statement_right (length before) s e)
      d.rows.statements (faultless text d none).statements

  module _ (widths_there : WidthsThere text d) where
    -- the row of a node has its width
    pub width_row : (n : ℕ) → IsRow d.rows.terms.nodes n → width_at (node_widths text d) n ≡ Some (node (database_of text d) n).width
    unfolding database_of
    width_row n h =
        let (w, e, small) = widths_there n h in
        let x : Node = row_at no_draft_node d.rows.terms.nodes n in
        let row = row_numbered (λ n x. node_row text d.rows.items (strings d.rows.terms.digits) (unwrap_or (width_at (node_widths text d) n) 0) x.form) d.rows.terms.nodes n no_draft_node no_node h in
        let wide = ap (λ r. r.width) row ∙ row_width text d.rows.items (strings d.rows.terms.digits) (unwrap_or (width_at (node_widths text d) n) 0) x.form ∙ ap (λ o. unwrap_or o 0) e in
        e ∙ ap Some (sym wide)

    kind_by : (k : StatementKind) (c : Option Condition) (step value code : ℕ) → ConditionStands d.rows.terms.nodes k c → condition_faults (node_widths text d) c ≡ [] → (k ≡ Transfer → 1 ≤ step) →
        StatementBy (Some k) (database_of text d) (record { step = step; kind = code; condition = condition_node c; value = value })
    kind_by Connection None step value code h e one = refl
    kind_by Connection (Some c) step value code h e one = let z = h.0 in cc
    kind_by Transfer None step value code h e one = (one refl, inl refl)
    kind_by Transfer (Some c) step value code h e one =
        (one refl, inr (agree c.place (width_at (node_widths text d) c.node) (Some 1) (node (database_of text d) c.node).width 1 (width_row c.node h.1) refl e))

    pub statements_sound : Laid d.rows → (n : ℕ) → IsRow (database_of text d).statements n → StatementSound (database_of text d) (statement (database_of text d) n)
    unfolding database_of
    statements_sound laid n h =
        let many = length_numbered (step_row d.rows.resets) d.rows.steps in
        let all : All (StatementSound (database_of text d)) (map statement_row d.rows.statements) =
        All-map (StatementSound (database_of text d)) statement_row d.rows.statements (λ k e l.
        let there = (stand d.rows laid).statements k e l in
        let right = statements_right k e l in
        let s : Statement = get_or d.rows.statements k e in
        let step = there.step in
        record {
          step = omega arith;
          kind = subst (λ o. StatementBy o (database_of text d) (statement_row s)) (sym (statement_kind_is s.kind))
              (kind_by s.kind s.condition (unwrap_or s.step 0) s.value (statement_code s.kind) there.condition right.condition there.transfer);
        }) in
        each_row (StatementSound (database_of text d)) no_statement (statement_rows d) (subst (All (StatementSound (database_of text d))) (sym (unnumbered statement_row d.rows.statements)) all) n h
