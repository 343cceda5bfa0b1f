-- How the rows of steps lie behind those that stand. Assumes nothing.
use Rattle.std.proofs.Common.{◌≡◌, ℕ, ◌+◌, ◌≤◌, List, [], ◌∷◌, ◌++◌, length, Some, None, IsSome, map, refl, sym, ap, ◌∙◌, subst, append_assoc, append-nil, length-append, arith}
use Rattle.std.specs.Prelude.{All}
use Rattle.std.proofs.lemmas.List.Elements.{All-nil, All-cons, All-append, All-head, All-tail}
use Rattle.words.specs.declared.token.Sign.TheVariants.{Semicolon}
use Rattle.grammar.specs.declared.draft.Node.{Node}
use Rattle.grammar.specs.declared.draft.Listed.{Listed}
use Rattle.grammar.specs.declared.draft.Statement.{Statement}
use Rattle.grammar.specs.declared.draft.Leaving.{Leaving}
use Rattle.grammar.specs.declared.draft.Leaving.TheVariants.{Next, Plain, Conditions, Dead}
use Rattle.grammar.specs.declared.draft.Step.{Step}
use Rattle.grammar.specs.declared.draft.Exit.{Exit}
use Rattle.grammar.specs.Rules.{integer, integers, many, series, branch, stmt, action, step}
use Rattle.grammar.specs.Trees.{Tree, mark_at, both, end, more, left, right, one, other, last, closing, next}
use Rattle.grammar.specs.Drafts.{RowLists, Left, root, number_of, listed, expr_rows, stmt_rows, exit_at, branch_rows, series_rows, action_rows, step_at, step_rows, more_steps}
use Rattle.soundness.specs.Layout.{StatementsLaid, ListLaid, LeavingLaid, DraftStepsLaid}
use Rattle.soundness.proofs.Terms.{grown_side, side_kept, expr_grown, listed_are}
use Rattle.soundness.proofs.Statements.{Orderly, Added, added_none, statements_kept, statements_append, OfStep, OfNone, stmt_added}

-- exits of a list
abbrev ExitFollows : ℕ → Exit → Type 0
ExitFollows n e = (e.step ≡ n) × IsSome e.entered.comma

exits_follow : (n : ℕ) (xs : List Listed) → All (λ x. IsSome x.comma) xs → All (ExitFollows n) (map (exit_at n) xs)
exits_follow n [] h = All-nil (ExitFollows n)
exits_follow n (x ∷ xs) h = All-cons (ExitFollows n) (exit_at n x) (map (exit_at n) xs) (refl, All-head (λ (y : Listed). IsSome y.comma) x xs h) (exits_follow n xs (All-tail (λ (y : Listed). IsSome y.comma) x xs h))

list_laid : (n : ℕ) (is : Tree integers) → ListLaid n (map (exit_at n) (listed is []))
list_laid n is =
    let z = listed_are is [] in
    subst (λ (xs : List Listed). ListLaid n (map (exit_at n) xs)) (sym z.2) (refl, z.3, exits_follow n z.1 z.4)

-- how a step is left stays so where more nodes follow
leaving_kept : (nodes others : List Node) (n : ℕ) (how : Leaving) (exits : ℕ) (own : List Exit) (before stop : ℕ) → LeavingLaid nodes n how exits own before stop → LeavingLaid (nodes ++ others) n how exits own before stop
leaving_kept nodes others n Next exits own before stop h = h
leaving_kept nodes others n Plain exits own before stop h = h
leaving_kept nodes others n (Conditions c z) exits own before stop h = (h.0, side_kept nodes others None before c.node h.1, h.2, h.3)
leaving_kept nodes others n Dead exits own before stop h = h

-- the rows of the step's action were put behind those that stood
pub record Acted (n : ℕ) (old : RowLists) (x : Left) : Type 0 where
  pub own : List Statement
  pub exiting : List Exit
  pub new : List Node
  pub middle : ℕ
  pub statements : x.1.statements ≡ old.statements ++ own
  pub exits : x.1.exits ≡ old.exits ++ exiting
  pub nodes : x.1.terms.nodes ≡ old.terms.nodes ++ new
  pub items : x.1.items ≡ old.items
  pub steps : x.1.steps ≡ old.steps
  pub are : All (OfStep n) own
  pub laid : StatementsLaid x.1.terms.nodes own (root old.terms) middle
  pub leaves : LeavingLaid x.1.terms.nodes n x.0 (length old.exits) exiting middle (root x.1.terms)
  pub orderly : Orderly old → Orderly x.1

acted_next : (n : ℕ) (old new : RowLists) → Added (OfStep n) old new → Acted n old (Next, new)
acted_next n old new g = record {
  own = g.own;
  exiting = [];
  new = g.more;
  middle = root new.terms;
  statements = g.statements;
  exits = g.exits ∙ sym (append-nil old.exits);
  nodes = g.nodes;
  items = g.items;
  steps = g.steps;
  are = g.are;
  laid = g.laid;
  leaves = (refl, refl);
  orderly = g.orderly;
}

acted_dead : (n : ℕ) (d : RowLists) → Acted n d (Dead, d)
acted_dead n d = record {
  own = [];
  exiting = [];
  new = [];
  middle = root d.terms;
  statements = sym (append-nil d.statements);
  exits = sym (append-nil d.exits);
  nodes = sym (append-nil d.terms.nodes);
  items = refl;
  steps = refl;
  are = All-nil (OfStep n);
  laid = refl;
  leaves = (refl, refl);
  orderly = λ o. o;
}

-- behind statements
acted_after : (n : ℕ) (a b : RowLists) (x : Left) → Added (OfStep n) a b → Acted n b x → Acted n a x
acted_after n a b x g h =
    let fewer : StatementsLaid x.1.terms.nodes g.own (root a.terms) (root b.terms) =
    subst (λ (xs : List Node). StatementsLaid xs g.own (root a.terms) (root b.terms)) (sym h.nodes) (statements_kept b.terms.nodes h.new g.own (root a.terms) (root b.terms) g.laid) in
    record {
      own = g.own ++ h.own;
      exiting = h.exiting;
      new = g.more ++ h.new;
      middle = h.middle;
      statements = h.statements ∙ (ap (λ (xs : List Statement). xs ++ h.own) g.statements ∙ append_assoc a.statements g.own h.own);
      exits = h.exits ∙ ap (λ (xs : List Exit). xs ++ h.exiting) g.exits;
      nodes = h.nodes ∙ (ap (λ (xs : List Node). xs ++ h.new) g.nodes ∙ append_assoc a.terms.nodes g.more h.new);
      items = h.items ∙ g.items;
      steps = h.steps ∙ g.steps;
      are = All-append (OfStep n) g.own h.own g.are h.are;
      laid = statements_append x.1.terms.nodes g.own h.own (root a.terms) (root b.terms) h.middle fewer h.laid;
      leaves = subst (λ (xs : List Exit). LeavingLaid x.1.terms.nodes n x.0 (length xs) h.exiting h.middle (root x.1.terms)) g.exits h.leaves;
      orderly = λ o. h.orderly (g.orderly o);
    }

branch_acted : (n : ℕ) (t : Tree branch) (d : RowLists) → Acted n d (branch_rows n t d)
branch_acted n (both b (both o (one (both is z)))) d = record {
  own = [];
  exiting = map (exit_at n) (listed is []);
  new = [];
  middle = root d.terms;
  statements = sym (append-nil d.statements);
  exits = refl;
  nodes = sym (append-nil d.terms.nodes);
  items = refl;
  steps = refl;
  are = All-nil (OfStep n);
  laid = refl;
  leaves = (list_laid n is, refl);
  orderly = λ o. record { targets = o.targets; digits = o.digits; literals = o.literals };
}
branch_acted n (both b (both o (other (both c (both z (both (mark_at p) (both q (both is y)))))))) d =
    let g = expr_grown c None d.terms in
    record {
      own = [];
      exiting = map (exit_at n) (listed is []);
      new = g.more;
      middle = root d.terms;
      statements = sym (append-nil d.statements);
      exits = refl;
      nodes = g.nodes;
      items = refl;
      steps = refl;
      are = All-nil (OfStep n);
      laid = refl;
      leaves = (list_laid n is, grown_side None d.terms (expr_rows c None d.terms) g, refl, length-append d.exits (map (exit_at n) (listed is [])));
      orderly = λ o. record { targets = o.targets; digits = g.plain o.digits; literals = g.literals o.literals };
    }

series_acted : (n : ℕ) (t : Tree (series stmt Semicolon branch)) (d : RowLists) → Acted n d (series_rows n t d)
series_acted n (last t) d = acted_next n d (stmt_rows n t d) (stmt_added n t d)
series_acted n (closing b) d = branch_acted n b d
series_acted n (next t p rest) d = acted_after n d (stmt_rows n t d) (series_rows n rest (stmt_rows n t d)) (stmt_added n t d) (series_acted n rest (stmt_rows n t d))

action_acted : (n : ℕ) (t : Tree action) (d : RowLists) → Acted n d (action_rows n t d)
action_acted n (left p) d = acted_next n d d (added_none (OfStep n) d)
action_acted n (right (left p)) d = acted_dead n d
action_acted n (right (right a)) d = series_acted n a d

-- The steps use up all statements, exits and nodes: so lie the rows of steps before the connections of none come.
abbrev pub StepsLaid : List Node → ℕ → List Step → List Statement → List Exit → ℕ → ℕ → ℕ → Type 0
StepsLaid nodes n [] statements exits passed before stop = (statements ≡ []) × (exits ≡ []) × (before ≡ stop)
StepsLaid nodes n (x ∷ xs) statements exits passed before stop =
    (own : List Statement) × (others : List Statement) × (statements ≡ own ++ others) × All (λ s. s.step ≡ Some n) own
    × (exiting : List Exit) × (rest : List Exit) × (exits ≡ exiting ++ rest)
    × (middle : ℕ) × StatementsLaid nodes own before middle
    × (between : ℕ) × LeavingLaid nodes n x.leaving passed exiting middle between
    × StepsLaid nodes (n + 1) xs others rest (passed + length exiting) between stop

pub steps_kept : (nodes others : List Node) (n : ℕ) (xs : List Step) (statements : List Statement) (exits : List Exit) (passed before stop : ℕ) → StepsLaid nodes n xs statements exits passed before stop → StepsLaid (nodes ++ others) n xs statements exits passed before stop
steps_kept nodes others n [] statements exits passed before stop h = h
steps_kept nodes others n (x ∷ xs) statements exits passed before stop (own, rest, e, are, exiting, left_over, f, middle, laid, between, leaves, h) = (
  own,
  rest,
  e,
  are,
  exiting,
  left_over,
  f,
  middle,
  statements_kept nodes others own before middle laid,
  between,
  leaving_kept nodes others n x.leaving passed exiting middle between leaves,
  steps_kept nodes others (n + 1) xs rest left_over (passed + length exiting) between stop h,
)

-- one step more at the end
steps_push : (nodes : List Node) (n : ℕ) (xs : List Step) (x : Step) (statements own : List Statement) (exits exiting : List Exit) (passed before here middle stop m q : ℕ) → StepsLaid nodes n xs statements exits passed before here → m ≡ n + length xs → q ≡ passed + length exits → All (λ s. s.step ≡ Some m) own → StatementsLaid nodes own here middle → LeavingLaid nodes m x.leaving q exiting middle stop → StepsLaid nodes n (xs ++ x ∷ []) (statements ++ own) (exits ++ exiting) passed before stop
steps_push nodes n [] x statements own exits exiting passed before here middle stop m q (a, b, c) e f are laid leaves =
    let zero_exits : length exits ≡ 0 = ap length b in
    let m_is : m ≡ n = omega arith in
    let q_is : q ≡ passed = omega arith in (
      own,
      [],
      ap (λ (ss : List Statement). ss ++ own) a ∙ sym (append-nil own),
      subst (λ (k : ℕ). All (λ s. s.step ≡ Some k) own) m_is are,
      exiting,
      [],
      ap (λ (es : List Exit). es ++ exiting) b ∙ sym (append-nil exiting),
      middle,
      subst (λ (k : ℕ). StatementsLaid nodes own k middle) (sym c) laid,
      stop,
      subst (λ (k : ℕ). LeavingLaid nodes k x.leaving passed exiting middle stop) m_is (subst (λ (k : ℕ). LeavingLaid nodes m x.leaving k exiting middle stop) q_is leaves),
      (refl, refl, refl),
    )
steps_push nodes n (y ∷ ys) x statements own exits exiting passed before here middle stop m q (o, others, s, os, l, rest, t, mid, sl, between, ll, h) e f are laid leaves =
    let long : length exits ≡ length l + length rest = ap length t ∙ length-append l rest in (
      o,
      others ++ own,
      ap (λ (ss : List Statement). ss ++ own) s ∙ append_assoc o others own,
      os,
      l,
      rest ++ exiting,
      ap (λ (es : List Exit). es ++ exiting) t ∙ append_assoc l rest exiting,
      mid,
      sl,
      between,
      ll,
      steps_push nodes (n + 1) ys x others own rest exiting (passed + length l) between here middle stop m q h (omega arith) (omega arith) are laid leaves,
    )

-- connections of none behind all steps
pub steps_close : (nodes : List Node) (n : ℕ) (xs : List Step) (statements own : List Statement) (exits : List Exit) (passed before middle stop : ℕ) → StepsLaid nodes n xs statements exits passed before middle → All OfNone own → StatementsLaid nodes own middle stop → DraftStepsLaid nodes n xs (statements ++ own) exits passed before stop
steps_close nodes n [] statements own exits passed before middle stop (a, b, c) are laid =
    let same : statements ++ own ≡ own = ap (λ (ss : List Statement). ss ++ own) a in
    (subst (All OfNone) (sym same) are, b, subst (λ (ss : List Statement). StatementsLaid nodes ss before stop) (sym same) (subst (λ (k : ℕ). StatementsLaid nodes own k stop) (sym c) laid))
steps_close nodes n (y ∷ ys) statements own exits passed before middle stop (o, others, s, os, l, rest, t, mid, sl, between, ll, h) are laid = (
  o,
  others ++ own,
  ap (λ (ss : List Statement). ss ++ own) s ∙ append_assoc o others own,
  os,
  l,
  rest,
  t,
  mid,
  sl,
  between,
  ll,
  steps_close nodes (n + 1) ys others own rest (passed + length l) between middle stop h are laid,
)

-- the rows behind so many steps
pub record Built (d : RowLists) : Type 0 where
  pub steps : StepsLaid d.terms.nodes 1 d.steps d.statements d.exits 0 0 (root d.terms)
  pub orderly : Orderly d

-- rows of steps, one at least, were put behind those that stood
pub record Stepped (old new : RowLists) : Type 0 where
  pub items : new.items ≡ old.items
  pub most : 1 ≤ length new.steps
  pub built : Built new

acted_built : (d : RowLists) (x : Left) (i : Tree integer) → Acted (length d.steps + 1) d x → Built d → Stepped d (step_at i x)
acted_built d x i g b =
    let y : Step = record { integer = number_of i; leaving = x.0 } in
    let nodes = x.1.terms.nodes in
    let before : StepsLaid nodes 1 d.steps d.statements d.exits 0 0 (root d.terms) =
    subst (λ (ns : List Node). StepsLaid ns 1 d.steps d.statements d.exits 0 0 (root d.terms)) (sym g.nodes) (steps_kept d.terms.nodes g.new 1 d.steps d.statements d.exits 0 0 (root d.terms) b.steps) in
    let pushed : StepsLaid nodes 1 (d.steps ++ y ∷ []) (d.statements ++ g.own) (d.exits ++ g.exiting) 0 0 (root x.1.terms) =
    steps_push nodes 1 d.steps y d.statements g.own d.exits g.exiting 0 0 (root d.terms) g.middle (root x.1.terms) (length d.steps + 1) (length d.exits) before (omega arith) (omega arith) g.are g.laid g.leaves in
    let by_steps : StepsLaid nodes 1 (x.1.steps ++ y ∷ []) (d.statements ++ g.own) (d.exits ++ g.exiting) 0 0 (root x.1.terms) =
    subst (λ (xs : List Step). StepsLaid nodes 1 (xs ++ y ∷ []) (d.statements ++ g.own) (d.exits ++ g.exiting) 0 0 (root x.1.terms)) (sym g.steps) pushed in
    let by_statements : StepsLaid nodes 1 (x.1.steps ++ y ∷ []) x.1.statements (d.exits ++ g.exiting) 0 0 (root x.1.terms) =
    subst (λ (xs : List Statement). StepsLaid nodes 1 (x.1.steps ++ y ∷ []) xs (d.exits ++ g.exiting) 0 0 (root x.1.terms)) (sym g.statements) by_steps in
    let orderly = g.orderly b.orderly in
    record {
      items = g.items;
      most = omega (arith, length-append x.1.steps (y ∷ []));
      built = record {
        steps = subst (λ (xs : List Exit). StepsLaid nodes 1 (x.1.steps ++ y ∷ []) x.1.statements xs 0 0 (root x.1.terms)) (sym g.exits) by_statements;
        orderly = record { targets = orderly.targets; digits = orderly.digits; literals = orderly.literals };
      };
    }

step_stepped : (t : Tree step) (d : RowLists) → Built d → Stepped d (step_rows t d)
step_stepped (both i (both a p)) d b = acted_built d (action_rows (length d.steps + 1) a d) i (action_acted (length d.steps + 1) a d) b

more_stepped : (ss : Tree (many step)) (old d : RowLists) → Stepped old d → Stepped old (more_steps ss d)
more_stepped end old d g = g
more_stepped (more s ss) old d g =
    let h = step_stepped s d g.built in
    more_stepped ss old (step_rows s d) (record { items = h.items ∙ g.items; most = h.most; built = h.built })

-- the steps of a module
pub steps_stepped : (s : Tree step) (ss : Tree (many step)) (d : RowLists) → Built d → Stepped d (more_steps ss (step_rows s d))
steps_stepped s ss d b = more_stepped ss d (step_rows s d) (step_stepped s d b)
