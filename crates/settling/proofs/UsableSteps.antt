-- The statements, the exits and the nodes of the steps of a database lie as its soundness says: what follows for each. Assumes nothing.
use Rattle.std.proofs.Common.{◌≡◌, ℕ, zero, suc, ◌+◌, ◌<◌, ◌≤◌, ◌==◌, cond, List, [], ◌∷◌, ◌++◌, length, get_or, sum_by, All, sym, ap, ◌∙◌, subst, ne_eqb, zero-add, arith}
use Rattle.std.proofs.lemmas.Bool.{cond-false}
use Rattle.std.proofs.lemmas.List.Elements.{All-nil, All-cons, All-head, All-tail, All-append, All-same, All-weaker}
use Rattle.std.proofs.lemmas.List.Sums.{sum_by-append}
use Rattle.least.specs.Each.{IsRow}
use Rattle.database.specs.declared.rows.StatementRow.{StatementRow}
use Rattle.database.specs.declared.rows.StepRow.{StepRow}
use Rattle.database.specs.declared.rows.ExitRow.{ExitRow}
use Rattle.database.specs.Codes.{step_kind}
use Rattle.database.specs.Expressions.{Shape, Expressions, shapes}
use Rattle.database.specs.Rows.{Database, no_step, step}
use Rattle.database.specs.Soundness.{HasExits, root, statement_roots, StepsLaid}
use Rattle.settling.proofs.UsableRows.{sum_nothing, sum_ones, all_parts, counted_here, counted_elsewhere}
use Rattle.settling.proofs.UsableNodes.{Within, joined, expression_order, expressions_within}

-- a row behind `before` and not behind `end`
abbrev Between : ℕ → ℕ → ℕ → Type 0
Between before end n = (before < n) × (n ≤ end)

-- roots stand so
roots_between : (shapes : List Shape) (before : ℕ) (roots : List ℕ) (end : ℕ) → Expressions shapes before roots end → All (Between before end) roots
roots_between shapes before [] end x = All-nil (Between before end)
roots_between shapes before (r ∷ roots) end x =
    let first = expression_order x.0 in
    let rest = (expressions_within shapes r roots end x.1).order in
    All-cons (Between before end) r roots (first, rest) (All-weaker (Between r end) (Between before end) (λ n h. (omega arith, h.1)) roots (roots_between shapes r roots end x.1))

-- a root that is there, or none
root_most : (before end n : ℕ) → All (Between before end) (root n) → n ≤ end
root_most before end zero a = omega arith
root_most before end (suc n) a =
    let is : root (suc n) ≡ suc n ∷ [] = cond-false (suc n == 0) [] (suc n ∷ []) (ne_eqb (suc n) 0 (λ e. absurd (omega arith))) in
    (All-head (Between before end) (suc n) [] (All-same (Between before end) (suc n ∷ []) (root (suc n)) (sym is) a)).1

-- a statement's nodes are there
abbrev pub StatementStands : ℕ → StatementRow → Type 0
StatementStands end s = (s.condition ≤ end) × (1 ≤ s.value) × (s.value ≤ end)

statements_stand : (before end : ℕ) (ss : List StatementRow) → All (Between before end) (statement_roots ss) → All (StatementStands end) ss
statements_stand before end [] a = All-nil (StatementStands end)
statements_stand before end (s ∷ ss) a =
    let (condition, rest) = all_parts (Between before end) (root s.condition) (s.value ∷ statement_roots ss) a in
    let value : Between before end s.value = All-head (Between before end) s.value (statement_roots ss) rest in
    All-cons (StatementStands end) s ss (root_most before end s.condition condition, omega arith, value.1)
    (statements_stand before end ss (All-tail (Between before end) s.value (statement_roots ss) rest))

-- an exit counts if it leaves that step
abbrev pub of_step : ℕ → ExitRow → ℕ
of_step n e = cond (e.left == n) 1 0

-- the exits of the first step, and of a later one, among those of all
first_counted : (n : ℕ) (left more : List ExitRow) → All (λ e. e.left ≡ n) left → All (λ e. n + 1 ≤ e.left) more → sum_by (of_step (n + 0)) (left ++ more) ≡ length left
first_counted n left more own later =
    let here = sum_ones (of_step (n + 0)) left (All-weaker (λ (e : ExitRow). e.left ≡ n) (λ e. of_step (n + 0) e ≡ 1) (λ e h. counted_here e.left (n + 0) 1 (omega arith)) left own) in
    let there = sum_nothing (of_step (n + 0)) more (All-weaker (λ (e : ExitRow). n + 1 ≤ e.left) (λ e. of_step (n + 0) e ≡ 0) (λ e h. counted_elsewhere e.left (n + 0) 1 (λ i. omega arith)) more later) in
    sum_by-append (of_step (n + 0)) left more ∙ omega (arith, here, there)

later_counted : (n k : ℕ) (left more : List ExitRow) → All (λ e. e.left ≡ n) left → sum_by (of_step (n + suc k)) (left ++ more) ≡ sum_by (of_step (n + 1 + k)) more
later_counted n k left more own =
    let same : n + suc k ≡ n + 1 + k = omega arith in
    let there = sum_nothing (of_step (n + suc k)) left (All-weaker (λ (e : ExitRow). e.left ≡ n) (λ e. of_step (n + suc k) e ≡ 0) (λ e h. counted_elsewhere e.left (n + suc k) 1 (λ i. omega arith)) left own) in
    sum_by-append (of_step (n + suc k)) left more ∙ ap (λ m. m + sum_by (of_step (n + suc k)) more) there ∙ zero-add (sum_by (of_step (n + suc k)) more) ∙ ap (λ m. sum_by (of_step m) more) same

-- a step has as many of these exits as it should
abbrev pub Counted : Database → ℕ → StepRow → List ExitRow → Type 0
Counted d n x es = HasExits (step_kind x.kind) d x (sum_by (of_step n) es)

counted_on : (d : Database) (n : ℕ) (x : StepRow) (xs : List StepRow) (es left more : List ExitRow) → es ≡ left ++ more → All (λ e. e.left ≡ n) left → All (λ e. n + 1 ≤ e.left) more
    → HasExits (step_kind x.kind) d x (length left) → ((k : ℕ) → k < length xs → Counted d (n + 1 + k) (get_or xs k no_step) more)
    → (k : ℕ) → k < suc (length xs) → Counted d (n + k) (get_or (x ∷ xs) k no_step) es
counted_on d n x xs es left more q own later has others zero h =
    subst (HasExits (step_kind x.kind) d x) (sym (ap (sum_by (of_step (n + 0))) q ∙ first_counted n left more own later)) has
counted_on d n x xs es left more q own later has others (suc k) h =
    subst (HasExits (step_kind (get_or xs k no_step).kind) d (get_or xs k no_step)) (sym (ap (sum_by (of_step (n + suc k))) q ∙ later_counted n k left more own)) (others k (omega arith))

-- what is known of steps from that number on, with their statements and exits
pub record Stand (d : Database) (n : ℕ) (xs : List StepRow) (ss : List StatementRow) (es : List ExitRow) (before end : ℕ) : Type 0 where
  pub nodes : Within (shapes d) before end
  pub statements : All (StatementStands end) ss
  pub conditions : All (λ x. x.condition ≤ end) xs
  pub exits : All (λ e. n ≤ e.left) es
  pub counted : (k : ℕ) → k < length xs → Counted d (n + k) (get_or xs k no_step) es

module _ (d : Database) where
  pub stand : (n : ℕ) (xs : List StepRow) (ss : List StatementRow) (es : List ExitRow) (before end : ℕ) → StepsLaid d n xs ss es before end → Stand d n xs ss es before end
  stand n [] ss es before end (of_none, no_exits, x) = record {
    nodes = expressions_within (shapes d) before (statement_roots ss) end x;
    statements = statements_stand before end ss (roots_between (shapes d) before (statement_roots ss) end x);
    conditions = All-nil (λ (x : StepRow). x.condition ≤ end);
    exits = All-same (λ (e : ExitRow). n ≤ e.left) es [] no_exits (All-nil (λ (e : ExitRow). n ≤ e.left));
    counted = λ k h. absurd (omega arith);
  }
  stand n (x ∷ xs) ss es before end (own, others, p, own_step, left, more, q, leaving, has, between, first, rest) =
      let later : Stand d (n + 1) xs others more between end = stand (n + 1) xs others more between end rest in
      let most = (later.nodes).order in
      let roots = roots_between (shapes d) before (statement_roots own ++ root x.condition) between first in
      let (of_statements, of_conditions) = all_parts (Between before between) (statement_roots own) (root x.condition) roots in
      let condition : x.condition ≤ between = root_most before between x.condition of_conditions in
      record {
        nodes = joined before between end (expressions_within (shapes d) before (statement_roots own ++ root x.condition) between first) later.nodes;
        statements = All-same (StatementStands end) ss (own ++ others) p
            (All-append (StatementStands end) own others (All-weaker (StatementStands between) (StatementStands end) (λ s h. (omega arith, h.1, omega arith)) own (statements_stand before between own of_statements)) later.statements);
        conditions = All-cons (λ (x : StepRow). x.condition ≤ end) x xs (omega arith) later.conditions;
        exits = All-same (λ (e : ExitRow). n ≤ e.left) es (left ++ more) q
            (All-append (λ (e : ExitRow). n ≤ e.left) left more
            (All-weaker (λ (e : ExitRow). e.left ≡ n) (λ (e : ExitRow). n ≤ e.left) (λ e h. omega arith) left leaving)
            (All-weaker (λ (e : ExitRow). n + 1 ≤ e.left) (λ (e : ExitRow). n ≤ e.left) (λ e h. omega arith) more later.exits));
        counted = counted_on d n x xs es left more q leaving later.exits has later.counted;
      }

  -- each step has as many exits as it should
  pub counted_row : Stand d 1 d.steps d.statements d.exits 0 (length d.nodes) → (m : ℕ) → IsRow d.steps m → Counted d m (step d m) d.exits
  counted_row x zero h = absurd (let z = h.0 in omega arith)
  counted_row x (suc k) h =
      let same : 1 + k ≡ suc k = omega arith in
      subst (λ m. Counted d m (step d (suc k)) d.exits) same (x.counted k (let z = h.1 in omega arith))
