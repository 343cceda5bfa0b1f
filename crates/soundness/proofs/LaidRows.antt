-- How the statements, exits and nodes of a draft without faults lie. Assumes nothing.
use Rattle.std.proofs.Common.{◌≡◌, ℕ, ◌+◌, ◌≤◌, ◌==◌, List, [], ◌∷◌, ◌++◌, length, map, Option, Some, None, unwrap_or, All, sym, refl, ap, ◌∙◌, subst, ne_eqb, arith}
use Rattle.std.proofs.lemmas.Bool.{cond-false}
use Rattle.std.proofs.lemmas.List.{append_assoc, map-append, length-map, length-append}
use Rattle.std.proofs.lemmas.List.Elements.{All-map, All-head, All-tail}
use Rattle.grammar.specs.declared.draft.Condition.{Condition}
use Rattle.grammar.specs.declared.draft.Exit.{Exit}
use Rattle.grammar.specs.declared.draft.Form.{Form}
use Rattle.grammar.specs.declared.draft.Form.TheVariants.{Bits, Literal, Sized, Comma, Join, Not, Reduce}
use Rattle.grammar.specs.declared.draft.Gate.TheVariants.{And, Or, Xor}
use Rattle.grammar.specs.declared.draft.Item.{Item}
use Rattle.grammar.specs.declared.draft.Leaving.{Leaving}
use Rattle.grammar.specs.declared.draft.Leaving.TheVariants.{Next, Plain, Conditions, Dead}
use Rattle.grammar.specs.declared.draft.Node.{Node}
use Rattle.grammar.specs.declared.draft.Statement.{Statement}
use Rattle.grammar.specs.declared.draft.Step.{Step}
use Rattle.grammar.specs.Drafts.{DraftLists}
use Rattle.symbols.specs.Widths.{width_at}
use Rattle.rules.specs.declared.measures.BitString.{BitString}
use Rattle.rules.specs.Strings.{strings}
use Rattle.rules.specs.Steps.{branch_faults}
use Rattle.rules.specs.Faults.{node_widths, exit_counts, faults}
use Rattle.database.specs.Codes.{mark, step_code, step_kind}
use Rattle.database.specs.Expressions.{Shape, Expressions, row_shape, shapes}
use Rattle.database.specs.Rows.{Database, node}
use Rattle.database.specs.Saying.{is_reset, kind_of, branch_node, condition_node, step_row, statement_row, exit_row, node_row, database_of}
use Rattle.database.specs.Soundness.{HasExits, root, statement_roots, StepsLaid}
use Rattle.soundness.specs.Layout.{form_shape, node_shape, StatementLaid, StatementsLaid, ListLaid, LeavingLaid, DraftStepsLaid, Laid}
use Rattle.soundness.proofs.Nil.{length_numbered}
use Rattle.soundness.proofs.Lists.{numbered_from, numbered_is, map_numbered, unnumbered}
use Rattle.soundness.proofs.Places.{LeavingStands, StepStands, exits_leave, expression_order, stand}
use Rattle.soundness.proofs.StepRows.{branches_right}
use Rattle.soundness.proofs.StatementRows.{WidthsThere, agree, width_row}
use Rattle.soundness.proofs.Counts.{counted}

-- the row of a node has its shape
row_shape_is : (text : List ℕ) (items : List Item) (strings : List BitString) (width : ℕ) (f : Form) → row_shape (node_row text items strings width f) ≡ form_shape f
row_shape_is text items strings width (Bits r) = refl
row_shape_is text items strings width (Literal d) = refl
row_shape_is text items strings width (Sized n m) = refl
row_shape_is text items strings width (Comma a b) = refl
row_shape_is text items strings width (Join And a b) = refl
row_shape_is text items strings width (Join Or a b) = refl
row_shape_is text items strings width (Join Xor a b) = refl
row_shape_is text items strings width (Not a) = refl
row_shape_is text items strings width (Reduce And a) = refl
row_shape_is text items strings width (Reduce Or a) = refl
row_shape_is text items strings width (Reduce Xor a) = refl

pub shapes_are : (text : List ℕ) (d : DraftLists) → shapes (database_of text d) ≡ map node_shape d.rows.terms.nodes
unfolding database_of
shapes_are text d =
    map_numbered (λ n x. node_row text d.rows.items (strings d.rows.terms.digits) (unwrap_or (width_at (node_widths text d) n) 0) x.form) row_shape node_shape
    (λ n x. row_shape_is text d.rows.items (strings d.rows.terms.digits) (unwrap_or (width_at (node_widths text d) n) 0) x.form) d.rows.terms.nodes

-- expressions behind expressions
expressions_append : (shapes : List Shape) (before middle end : ℕ) (roots more : List ℕ) → Expressions shapes before roots middle → Expressions shapes middle more end → Expressions shapes before (roots ++ more) end
expressions_append shapes before middle end [] more h k = subst (λ n. Expressions shapes n more end) (sym h) k
expressions_append shapes before middle end (n ∷ roots) more h k = (h.0, expressions_append shapes n middle end roots more h.1 k)

root_is : (n : ℕ) → 1 ≤ n → root n ≡ n ∷ []
root_is n h = cond-false (n == 0) [] (n ∷ []) (ne_eqb n 0 (λ e. absurd (omega arith)))

module _ (nodes : List Node) where
  statement_expressions : (c : Option Condition) (s : Statement) (before : ℕ) (roots : List ℕ) (end : ℕ) → StatementLaid nodes c s before →
      Expressions (map node_shape nodes) s.value roots end → Expressions (map node_shape nodes) before (root (condition_node c) ++ s.value ∷ roots) end
  statement_expressions None s before roots end l k = (l.expression, k)
  statement_expressions (Some c) s before roots end l k =
      let first = expression_order (l.1).expression in
      subst (λ r. Expressions (map node_shape nodes) before (r ++ s.value ∷ roots) end) (sym (root_is c.node (omega arith))) ((l.1).expression, ((l.2).expression, k))

  statements_expressions : (ss : List Statement) (before end : ℕ) → StatementsLaid nodes ss before end → Expressions (map node_shape nodes) before (statement_roots (map statement_row ss)) end
  statements_expressions [] before end l = l
  statements_expressions (s ∷ ss) before end l =
      statement_expressions s.condition s before (statement_roots (map statement_row ss)) end l.0 (statements_expressions ss s.value end l.1)

  leaving_expressions : (n : ℕ) (x : Leaving) (passed : ℕ) (own : List Exit) (before end : ℕ) → LeavingLaid nodes n x passed own before end →
      Expressions (map node_shape nodes) before (root (branch_node x)) end
  leaving_expressions n Next passed own before end l = l.1
  leaving_expressions n Plain passed own before end l = l.1
  leaving_expressions n (Conditions c last) passed own before end l =
      let first = expression_order (l.1).expression in
      subst (λ r. Expressions (map node_shape nodes) before r end) (sym (root_is c.node (omega arith))) ((l.1).expression, l.2)
  leaving_expressions n Dead passed own before end l = l.1

some_exit : (n : ℕ) (es : List Exit) → ListLaid n es → 1 ≤ length es
some_exit n [] h = absurd h
some_exit n (e ∷ es) h = omega arith

module _ (text : List ℕ) (d : DraftLists) (none : faults text d ≡ []) (widths_there : WidthsThere text d) where
  has_exits : (n : ℕ) (x : Leaving) (front own more : List Exit) (kind reset before end : ℕ) → d.rows.exits ≡ front ++ (own ++ more) → LeavingStands d.rows.terms.nodes x →
      branch_faults (node_widths text d) (exit_counts d) x ≡ [] → LeavingLaid d.rows.terms.nodes n x (length front) own before end →
      HasExits (step_kind (step_code (kind_of x))) (database_of text d) (record { kind = kind; condition = branch_node x; reset = reset }) (length own)
  has_exits n Next front own more kind reset before end e h b l = ap length l.0
  has_exits n Plain front own more kind reset before end e h b l = some_exit n own l.0
  has_exits n (Conditions c last) front own more kind reset before end e h b l =
      sym (agree c.place (width_at (node_widths text d) c.node) (width_at (exit_counts d) last) (node (database_of text d) c.node).width (length own)
      (width_row text d none widths_there c.node h) (counted text d none n front own more e l.0 last l.3) b)
  has_exits n Dead front own more kind reset before end e h b l = ap length l.0

  steps_laid : (n : ℕ) (xs : List Step) (ss : List Statement) (front es : List Exit) (passed before end : ℕ) → d.rows.exits ≡ front ++ es → passed ≡ length front →
      All (StepStands d.rows.terms.nodes) xs → All (λ s. branch_faults (node_widths text d) (exit_counts d) s.leaving ≡ []) xs → DraftStepsLaid d.rows.terms.nodes n xs ss es passed before end →
      StepsLaid (database_of text d) n (numbered_from (step_row d.rows.resets) n xs) (map statement_row ss) (map exit_row es) before end
  steps_laid n [] ss front es passed before end e f h b l = (
    All-map (λ s. s.step ≡ 0) statement_row ss (λ k i j. ap (λ o. unwrap_or o 0) (l.0 k i j).0),
    ap (map exit_row) l.1,
    subst (λ v. Expressions v before (statement_roots (map statement_row ss)) end) (sym (shapes_are text d)) (statements_expressions d.rows.terms.nodes ss before end l.2),
  )
  steps_laid n (x ∷ xs) ss front es passed before end e f h b (own, others, p, all, left, more, q, middle, laid, between, leaves, rest) =
      let parted : d.rows.exits ≡ front ++ (left ++ more) = e ∙ ap (λ ys. front ++ ys) q in
      let left_by = subst (λ k. LeavingLaid d.rows.terms.nodes n x.leaving k left middle between) f leaves in
      let there = All-head (StepStands d.rows.terms.nodes) x xs h in
      let right = All-head (λ s. branch_faults (node_widths text d) (exit_counts d) s.leaving ≡ []) x xs b in (
        map statement_row own,
        map statement_row others,
        ap (map statement_row) p ∙ map-append statement_row own others,
        All-map (λ s. s.step ≡ n) statement_row own (λ k i j. ap (λ o. unwrap_or o 0) (all k i j)),
        map exit_row left,
        map exit_row more,
        ap (map exit_row) q ∙ map-append exit_row left more,
        All-map (λ e. e.left ≡ n) exit_row left (exits_leave d.rows.terms.nodes n x.leaving passed left middle between leaves),
        subst (HasExits (step_kind (step_code (kind_of x.leaving))) (database_of text d) (step_row d.rows.resets n x)) (sym (length-map left exit_row))
            (has_exits n x.leaving front left more (step_code (kind_of x.leaving)) (mark (is_reset d.rows.resets n)) middle between parted there right left_by),
        between,
        subst (λ v. Expressions v before (statement_roots (map statement_row own) ++ root (branch_node x.leaving)) between) (sym (shapes_are text d))
            (expressions_append (map node_shape d.rows.terms.nodes) before middle between (statement_roots (map statement_row own)) (root (branch_node x.leaving))
            (statements_expressions d.rows.terms.nodes own before middle laid) (leaving_expressions d.rows.terms.nodes n x.leaving passed left middle between leaves)),
        steps_laid (n + 1) xs others (front ++ left) more (passed + length left) between end (parted ∙ sym (append_assoc front left more))
            (let z = length-append front left in omega arith) (All-tail (StepStands d.rows.terms.nodes) x xs h)
            (All-tail (λ s. branch_faults (node_widths text d) (exit_counts d) s.leaving ≡ []) x xs b) rest,
      )

  pub laid_rows : Laid d.rows → StepsLaid (database_of text d) 1 (database_of text d).steps (database_of text d).statements (database_of text d).exits 0 (length (database_of text d).nodes)
  unfolding database_of
  laid_rows laid =
      let there : Database = database_of text d in
      let nodes : List Node = d.rows.terms.nodes in
      let rows = steps_laid 1 d.rows.steps d.rows.statements [] d.rows.exits 0 0 (length nodes) refl refl (stand d.rows laid).steps (branches_right text d none) laid.steps in
      subst (λ n. StepsLaid there 1 there.steps there.statements there.exits 0 n)
      (sym (length_numbered (λ n x. node_row text d.rows.items (strings d.rows.terms.digits) (unwrap_or (width_at (node_widths text d) n) 0) x.form) nodes))
      (subst (λ es. StepsLaid there 1 there.steps there.statements es 0 (length nodes)) (sym (unnumbered exit_row d.rows.exits))
      (subst (λ ss. StepsLaid there 1 there.steps ss (map exit_row d.rows.exits) 0 (length nodes)) (sym (unnumbered statement_row d.rows.statements))
      (subst (λ xs. StepsLaid there 1 xs (map statement_row d.rows.statements) (map exit_row d.rows.exits) 0 (length nodes)) (sym (numbered_is (step_row d.rows.resets) d.rows.steps)) rows)))
