-- How the rows of a draft lie. Assumes nothing.
use Rattle.std.proofs.Common.{◌≡◌, ◌≤◌, List, [], ◌++◌, length, refl, sym, ap, ◌∙◌, subst}
use Rattle.std.proofs.lemmas.List.Elements.{All-nil}
use Rattle.words.specs.declared.token.Sign.TheVariants.{Semicolon}
use Rattle.grammar.specs.declared.draft.Class.{Class}
use Rattle.grammar.specs.declared.draft.Item.{Item}
use Rattle.grammar.specs.declared.draft.Node.{Node}
use Rattle.grammar.specs.declared.draft.Step.{Step}
use Rattle.grammar.specs.declared.draft.Statement.{Statement}
use Rattle.grammar.specs.declared.draft.Exit.{Exit}
use Rattle.grammar.specs.Rules.{mark, integers, item, many, ◌then◌, conn, step, decl, unit}
use Rattle.grammar.specs.Trees.{Tree, both, end, more}
use Rattle.grammar.specs.Drafts.{RowLists, with_item, item_of, more_items, class_of, decl_rows, more_decls, step_rows, more_steps, more_conns, no_rows, reset_rows, root, draft_of}
use Rattle.soundness.specs.Layout.{Laid, DraftStepsLaid, LiteralThere}
use Rattle.soundness.proofs.Statements.{Added, OfNone, conns_added}
use Rattle.soundness.proofs.Steps.{StepsLaid, Built, Stepped, steps_kept, steps_stepped, steps_close}

-- declarations leave no rows but items
abbrev with_items : RowLists → List Item → RowLists
with_items d xs = record { items = xs; steps = d.steps; statements = d.statements; targets = d.targets; exits = d.exits; resets = d.resets; terms = d.terms }

ItemsOnly : RowLists → RowLists → Type 0
ItemsOnly old new = (items : List Item) × (new ≡ with_items old items)

items_then : (a b c : RowLists) → ItemsOnly a b → ItemsOnly b c → ItemsOnly a c
unfolding ItemsOnly
items_then a b c g h = (h.0, h.1 ∙ ap (λ (d : RowLists). with_items d h.0) g.1)

more_items_only : (c : Class) (is : Tree (many (mark Semicolon then item))) (d : RowLists) → ItemsOnly d (more_items c is d)
unfolding ItemsOnly
more_items_only c end d = (d.items, refl)
more_items_only c (more (both p i) is) d = let z = more_items_only c is (with_item d (item_of c i)) in (z.0, z.1)

decl_only : (t : Tree decl) (d : RowLists) → ItemsOnly d (decl_rows t d)
unfolding ItemsOnly
decl_only (both c (both p (both (both i is) q))) d = let z = more_items_only (class_of c) is (with_item d (item_of (class_of c) i)) in (z.0, z.1)

decls_only : (ts : Tree (many decl)) (old d : RowLists) → ItemsOnly old d → ItemsOnly old (more_decls ts d)
decls_only end old d g = g
decls_only (more t ts) old d g = decls_only ts old (decl_rows t d) (items_then old d (decl_rows t d) g (decl_only t d))

-- no rows but items
items_built : (d : RowLists) → ItemsOnly no_rows d → Built d
unfolding ItemsOnly
items_built d g = subst Built (sym g.1) (record {
  steps = (refl, refl, refl);
  orderly = record { targets = refl; digits = tt; literals = All-nil (λ (x : Node). LiteralThere [] x.form) };
})

-- steps that CONTROLRESET enters
reset_stepped : (is : Tree integers) (old d : RowLists) → Stepped old d → Stepped old (reset_rows is d)
reset_stepped is old d g = record {
  items = g.items;
  most = g.most;
  built = record { steps = g.built.steps; orderly = record { targets = g.built.orderly.targets; digits = g.built.orderly.digits; literals = g.built.orderly.literals } };
}

-- connections of none behind all steps
conns_laid : (old b d : RowLists) → Stepped old b → Added OfNone b d → Laid d
conns_laid old b d g h =
    let nodes = d.terms.nodes in
    let steps : StepsLaid nodes 1 b.steps b.statements b.exits 0 0 (root b.terms) =
    subst (λ (ns : List Node). StepsLaid ns 1 b.steps b.statements b.exits 0 0 (root b.terms)) (sym h.nodes) (steps_kept b.terms.nodes h.more 1 b.steps b.statements b.exits 0 0 (root b.terms) g.built.steps) in
    let closed : DraftStepsLaid nodes 1 b.steps (b.statements ++ h.own) b.exits 0 0 (root d.terms) =
    steps_close nodes 1 b.steps b.statements h.own b.exits 0 0 (root b.terms) (root d.terms) steps h.are h.laid in
    let by_steps : DraftStepsLaid nodes 1 d.steps (b.statements ++ h.own) b.exits 0 0 (root d.terms) =
    subst (λ (xs : List Step). DraftStepsLaid nodes 1 xs (b.statements ++ h.own) b.exits 0 0 (root d.terms)) (sym h.steps) closed in
    let by_statements : DraftStepsLaid nodes 1 d.steps d.statements b.exits 0 0 (root d.terms) =
    subst (λ (xs : List Statement). DraftStepsLaid nodes 1 d.steps xs b.exits 0 0 (root d.terms)) (sym h.statements) by_steps in
    let orderly = h.orderly g.built.orderly in
    record {
      some_step = subst (λ (xs : List Step). 1 ≤ length xs) (sym h.steps) g.most;
      steps = subst (λ (xs : List Exit). DraftStepsLaid nodes 1 d.steps d.statements xs 0 0 (root d.terms)) (sym h.exits) by_statements;
      targets = orderly.targets;
      digits = orderly.digits;
      literals = orderly.literals;
    }

-- the rows of a module, by its declarations, steps, entered steps and connections
abbrev body_rows : Tree step → Tree (many step) → Tree integers → Tree (many (mark Semicolon then conn)) → RowLists → RowLists
body_rows s ss is cs d = more_conns cs (reset_rows is (more_steps ss (step_rows s d)))

module _ (s : Tree step) (ss : Tree (many step)) (is : Tree integers) (cs : Tree (many (mark Semicolon then conn))) (d : RowLists) (b : Built d) where
  entered : Stepped d (reset_rows is (more_steps ss (step_rows s d)))
  entered = reset_stepped is d (more_steps ss (step_rows s d)) (steps_stepped s ss d b)

  connected : Added OfNone (reset_rows is (more_steps ss (step_rows s d))) (body_rows s ss is cs d)
  connected = conns_added cs (reset_rows is (more_steps ss (step_rows s d)))

  body_laid : Laid (body_rows s ss is cs d)
  body_laid = conns_laid d (reset_rows is (more_steps ss (step_rows s d))) (body_rows s ss is cs d) entered connected

  -- its items are those of its declarations
  pub body_items : (body_rows s ss is cs d).items ≡ d.items
  body_items = connected.items ∙ entered.items

pub declared : (a : Tree decl) (bs : Tree (many decl)) → Built (more_decls bs (decl_rows a no_rows))
declared a bs = items_built (more_decls bs (decl_rows a no_rows)) (decls_only bs no_rows (decl_rows a no_rows) (decl_only a no_rows))

pub laid : (t : Tree unit) → Laid (draft_of t).rows
unfolding draft_of
laid (both a (both b (both n (both c (both d (both ds (both e (both f (both g (both k (both h (both s (both ss (both i (both j (both l (both is (both m (both cs z))))))))))))))))))) =
    body_laid s ss is cs (more_decls ds (decl_rows d no_rows)) (declared d ds)
