-- The steps and the exits of a draft without faults. Assumes nothing.
use Rattle.std.proofs.Common.{◌≡◌, ℕ, ◌+◌, ◌-◌, ◌<◌, ◌≤◌, Bool, true, false, not, ◌&&◌, ◌||◌, true≢false, ◌==◌, List, [], ◌∷◌, ◌++◌, length, get_or, map, Option, All, sym, refl, subst, ⊎_elim, arith}
use Rattle.std.proofs.lemmas.Bool.{not-false, or_cases, eqb-true, eq-eqb, and_cases, both_ways}
use Rattle.std.proofs.lemmas.List.{length_push}
use Rattle.std.proofs.lemmas.List.Elements.{All-map}
use Rattle.grammar.specs.declared.draft.Exit.{Exit}
use Rattle.grammar.specs.declared.draft.Leaving.{Leaving}
use Rattle.grammar.specs.declared.draft.Leaving.TheVariants.{Next, Plain, Conditions, Dead}
use Rattle.grammar.specs.declared.draft.Node.{Node}
use Rattle.grammar.specs.declared.draft.Step.{Step}
use Rattle.grammar.specs.Drafts.{DraftLists}
use Rattle.least.specs.declared.rule.Rule.TheVariants.{StepInteger, LastStep}
use Rattle.least.specs.declared.rule.RuleFault.{RuleFault}
use Rattle.least.specs.Order.{fault_if}
use Rattle.least.specs.Each.{each_after, row_at, IsRow}
use Rattle.symbols.specs.Items.{overflows}
use Rattle.rules.specs.Steps.{most_steps, most_exits, goes_on, is_step, missing, exit_faults, branch_faults, step_faults}
use Rattle.rules.specs.Faults.{node_widths, exit_counts, faults}
use Rattle.database.specs.Codes.{mark, step_code, step_kind}
use Rattle.database.specs.Rows.{no_step, no_exit, step, exit}
use Rattle.database.specs.Saying.{is_reset, kind_of, branch_node, step_row, step_rows, exit_row, exit_rows, database_of}
use Rattle.database.specs.Soundness.{LeavesBy, StepSound, Closes, ExitSound}
use Rattle.soundness.specs.Layout.{Laid}
use Rattle.soundness.proofs.Nil.{nil_left, nil_right, test_false, length_numbered, row_numbered, nil_counted}
use Rattle.soundness.proofs.Lists.{all_without, each_row, unnumbered}
use Rattle.soundness.proofs.Few.{faultless}
use Rattle.soundness.proofs.Places.{LeavingStands, StepStands, stand}

leaves_by : (nodes : List Node) (x : Leaving) → LeavingStands nodes x → LeavesBy (step_kind (step_code (kind_of x))) (branch_node x)
leaves_by nodes Next h = refl
leaves_by nodes Plain h = refl
leaves_by nodes (Conditions c last) h = h.0
leaves_by nodes Dead h = refl

closes_by : (x : Leaving) → goes_on x ≡ false → Closes (step_kind (step_code (kind_of x)))
closes_by Next e = cc
closes_by Plain e = tt
closes_by (Conditions c last) e = cc
closes_by Dead e = tt

mark_small : (b : Bool) → mark b ≤ 1
mark_small true = omega arith
mark_small false = omega arith

-- what no fault says of a step, behind so many
pub record StepRight (widths counts : List (Option ℕ)) (steps rows : ℕ) (s : Step) : Type 0 where
  pub integer : s.integer.value ≡ rows + 1
  pub goes : ((rows + 1 == steps) && goes_on s.leaving) ≡ false
  pub branch : branch_faults widths counts s.leaving ≡ []

pub step_right : (widths counts : List (Option ℕ)) (steps rows : ℕ) (s : Step) → step_faults widths counts steps rows s ≡ [] → StepRight widths counts steps rows s
step_right widths counts steps rows s e =
    let a = fault_if (not (s.integer.value == rows + 1)) s.integer.place StepInteger in
    let b = fault_if ((rows + 1 == steps) && goes_on s.leaving) s.integer.place LastStep in
    let c = overflows rows most_steps s.integer.place in
    let f = branch_faults widths counts s.leaving in
    let n2 = nil_left (a ++ b) c (nil_left (a ++ b ++ c) f e) in
    record {
      integer = eqb-true s.integer.value (rows + 1) (not-false (s.integer.value == rows + 1) (test_false _ s.integer.place StepInteger (nil_left a b n2)));
      goes = test_false ((rows + 1 == steps) && goes_on s.leaving) s.integer.place LastStep (nil_right a b n2);
      branch = nil_right (a ++ b ++ c) f e;
    }

-- a step that is written is there, since steps are numbered
step_there : (widths counts : List (Option ℕ)) (steps : ℕ) (done xs : List Step) (n : ℕ) →
    each_after (λ before s. step_faults widths counts steps (length before) s) done xs ≡ [] → is_step xs n ≡ true → (length done < n) × (n ≤ length done + length xs)
step_there widths counts steps done [] n e h = cc
step_there widths counts steps done (x ∷ xs) n e h =
    ⊎_elim
    (λ t.
    let right = step_right widths counts steps (length done) x (nil_left (step_faults widths counts steps (length done) x) rest e) in
    let same = eqb-true x.integer.value n t in
    let i = right.integer in
    (omega arith, omega arith))
    (λ t.
    let (a, b) = step_there widths counts steps (done ++ x ∷ []) xs n (nil_right (step_faults widths counts steps (length done) x) rest e) t in
    let l = length_push done x in
    (omega arith, omega arith))
    (or_cases (x.integer.value == n) (is_step xs n) h)
  where
    rest : List RuleFault
    rest = each_after (λ before s. step_faults widths counts steps (length before) s) (done ++ x ∷ []) xs

abbrev no_draft_step : Step
no_draft_step = record { integer = record { place = 0; value = 0 }; leaving = Dead }

-- a step that is not missing is written
not_missing : (t u : Bool) → (t || not u) ≡ false → u ≡ true
not_missing t true e = refl
not_missing true false e = absurd (true≢false e)
not_missing false false e = absurd (true≢false e)

module _ (text : List ℕ) (d : DraftLists) (none : faults text d ≡ []) where
  pub branches_right : All (λ s. branch_faults (node_widths text d) (exit_counts d) s.leaving ≡ []) d.rows.steps
  branches_right =
      all_without (λ before s. step_faults (node_widths text d) (exit_counts d) (length d.rows.steps) (length before) s) (λ s. branch_faults (node_widths text d) (exit_counts d) s.leaving ≡ [])
      (λ before s e. (step_right (node_widths text d) (exit_counts d) (length d.rows.steps) (length before) s e).branch) d.rows.steps (faultless text d none).steps

  pub exits_right : All (λ e. missing d.rows.steps e.entered.integer ≡ []) d.rows.exits
  exits_right =
      all_without (λ before e. exit_faults d.rows.steps (length before) e) (λ e. missing d.rows.steps e.entered.integer ≡ [])
      (λ before e n. nil_left (missing d.rows.steps e.entered.integer) (overflows (length before) most_exits e.entered.integer.place) n) d.rows.exits (faultless text d none).exits

  module _ (laid : Laid d.rows) where
    pub some_step : 1 ≤ length (database_of text d).steps
    unfolding database_of
    some_step = let l = length_numbered (step_row d.rows.resets) d.rows.steps in let h = laid.some_step in omega arith

    pub steps_sound : (n : ℕ) → IsRow (database_of text d).steps n → StepSound (step (database_of text d) n)
    unfolding database_of
    steps_sound n h =
        let l = length_numbered (step_row d.rows.resets) d.rows.steps in
        let low : 1 ≤ n = h.0 in
        let high : n ≤ length (step_rows d) = h.1 in
        let there : IsRow d.rows.steps n = (low, omega arith) in
        let s : Step = row_at no_draft_step d.rows.steps n in
        subst StepSound (sym (row_numbered (step_row d.rows.resets) d.rows.steps n no_draft_step no_step there))
        (record {
          leaves = leaves_by d.rows.terms.nodes s.leaving (each_row (StepStands d.rows.terms.nodes) no_draft_step d.rows.steps (stand d.rows laid).steps n there);
          mark = mark_small (is_reset d.rows.resets n);
        })

    pub closes : Closes (step_kind (step (database_of text d) (length (database_of text d).steps)).kind)
    unfolding database_of
    closes =
        let many = length_numbered (step_row d.rows.resets) d.rows.steps in
        let m : ℕ = length d.rows.steps in
        let some : 1 ≤ m = laid.some_step in
        let s : Step = row_at no_draft_step d.rows.steps m in
        let right = step_right (node_widths text d) (exit_counts d) m (m - 1) s
        (nil_counted (step_faults (node_widths text d) (exit_counts d) m) d.rows.steps m no_draft_step (some, omega arith) (faultless text d none).steps) in
        let last : goes_on s.leaving ≡ false =
        ⊎_elim (λ f. absurd (both_ways _ f (eq-eqb (m - 1 + 1) m (omega arith)))) (λ f. f) (and_cases (m - 1 + 1 == m) (goes_on s.leaving) right.goes) in
        subst (λ n. Closes (step_kind (row_at no_step (step_rows d) n).kind)) (sym many)
        (subst (λ x. Closes (step_kind x.kind)) (sym (row_numbered (step_row d.rows.resets) d.rows.steps m no_draft_step no_step (some, omega arith))) (closes_by s.leaving last))

    pub exits_sound : (n : ℕ) → IsRow (database_of text d).exits n → ExitSound (database_of text d) (exit (database_of text d) n)
    unfolding database_of
    exits_sound n h =
        let many = length_numbered (step_row d.rows.resets) d.rows.steps in
        let all : All (ExitSound (database_of text d)) (map exit_row d.rows.exits) =
        All-map (ExitSound (database_of text d)) exit_row d.rows.exits (λ k e l.
        let left = (stand d.rows laid).exits k e l in
        let x : Exit = get_or d.rows.exits k e in
        let written = not_missing (x.entered.integer.value == 0) (is_step d.rows.steps x.entered.integer.value) (test_false _ x.entered.integer.place StepInteger (exits_right k e l)) in
        let (low, high) = step_there (node_widths text d) (exit_counts d) (length d.rows.steps) [] d.rows.steps x.entered.integer.value (faultless text d none).steps written in
        record { left = (left.0, omega arith); entered = (omega arith, omega arith) }) in
        each_row (ExitSound (database_of text d)) no_exit (exit_rows d) (subst (All (ExitSound (database_of text d))) (sym (unnumbered exit_row d.rows.exits)) all) n h
