-- Tables hold one sound database at most. Assumes nothing.
use Rattle.std.proofs.Common.{◌≡◌, ℕ, zero, suc, ◌-◌, List, [], ◌∷◌, ◌++◌, length, replicate, sym, refl, ap, ap₂, ◌∙◌, subst, arith}
use Rattle.least.specs.Each.{row_at, IsRow}
use Rattle.database.specs.Rows.{Database, no_symbol, no_step, no_statement, no_target, no_exit, no_node, symbol, exit, node}
use Rattle.database.specs.Codes.{step_kind, statement_kind}
use Rattle.database.specs.Tables.{filled}
use Rattle.database.specs.Soundness.{LeavesBy, StatementBy, TargetSound, Sound}
use Rattle.soundness.specs.Laws.{OneHeld}

-- each row of a list is another than an unused one
abbrev pub Used : {A : Type 0} → A → List A → Type 0
Used none xs = (n : ℕ) → IsRow xs n → row_at none xs n ≡ none → ⊥

used_rest : {A : Type 0} (none x : A) (xs : List A) → Used none (x ∷ xs) → Used none xs
used_rest none x xs u zero h e = absurd (let z = h.0 in omega arith)
used_rest none x xs u (suc n) h e = u (suc (suc n)) (let z = h.1 in (omega arith, omega arith)) e

used_first : {A : Type 0} (none x : A) (xs : List A) → Used none (x ∷ xs) → x ≡ none → ⊥
used_first none x xs u e = u 1 (omega arith, omega arith) e

-- unused rows begin with an unused row
unused_first : {A : Type 0} (none x : A) (rest : List A) (n : ℕ) → replicate n none ≡ x ∷ rest → x ≡ none
unused_first none x rest zero e = let z : ◌≡◌ {A = ℕ} 0 (length (x ∷ rest)) = ap length e in absurd (omega arith)
unused_first none x rest (suc n) e = cc

used_once : {A : Type 0} (none : A) (xs ys : List A) (m n : ℕ) → Used none xs → Used none ys → xs ++ replicate m none ≡ ys ++ replicate n none → xs ≡ ys
used_once none [] [] m n u v e = refl
used_once none [] (y ∷ ys) m n u v e = absurd (used_first none y ys v (unused_first none y (ys ++ replicate n none) m e))
used_once none (x ∷ xs) [] m n u v e = absurd (used_first none x xs u (unused_first none x (xs ++ replicate m none) n (sym e)))
used_once none (x ∷ xs) (y ∷ ys) m n u v e =
    let p : x ≡ y = cc in
    let q : xs ++ replicate m none ≡ ys ++ replicate n none = cc in
    ap₂ (λ z zs. z ∷ zs) p (used_once none xs ys m n (used_rest none x xs u) (used_rest none y ys v) q)

-- a table begins with one list of used rows at most, of whatever size it was made
pub filled_once : {A : Type 0} (none : A) (xs ys : List A) (m n : ℕ) (table : List A) → Used none xs → Used none ys → table ≡ filled none m xs → table ≡ filled none n ys → xs ≡ ys
filled_once none xs ys m n table u v e f = used_once none xs ys (m - length xs) (n - length ys) u v (sym e ∙ f)

-- no row of a sound database is an unused one
module _ (bytes : ℕ) (d : Database) (s : Sound bytes d) where
  symbols_used : Used no_symbol d.symbols
  symbols_used n h e = let z : (symbol d n).length ≡ 0 = ap (λ x. x.length) e in absurd (omega (arith, (s.symbols n h).named))

  steps_used : Used no_step d.steps
  steps_used n h e = subst (λ x. LeavesBy (step_kind x.kind) x.condition) e (s.steps n h).leaves

  statements_used : Used no_statement d.statements
  statements_used n h e = subst (λ x. StatementBy (statement_kind x.kind) d x) e (s.statements n h).kind

  targets_used : Used no_target d.targets
  targets_used n h e = subst (TargetSound d) e (s.targets n h)

  exits_used : Used no_exit d.exits
  exits_used n h e = let z : (exit d n).left ≡ 0 = ap (λ x. x.left) e in absurd (omega (arith, (s.exits n h).left.0))

  nodes_used : Used no_node d.nodes
  nodes_used n h e = let z : (node d n).width ≡ 0 = ap (λ x. x.width) e in absurd (omega (arith, (s.nodes n h).width.0))

-- databases with the same rows
same_rows : (d e : Database) → d.symbols ≡ e.symbols → d.steps ≡ e.steps → d.statements ≡ e.statements → d.targets ≡ e.targets → d.exits ≡ e.exits → d.nodes ≡ e.nodes → d ≡ e
same_rows d e a b c f g h = λ i. record { symbols = a i; steps = b i; statements = c i; targets = f i; exits = g i; nodes = h i }

pub one_held : OneHeld
one_held bytes more d e old older new s t h g =
    same_rows d e
    (filled_once no_symbol d.symbols e.symbols _ _ _ (symbols_used bytes d s) (symbols_used more e t) h.symbols g.symbols)
    (filled_once no_step d.steps e.steps _ _ _ (steps_used bytes d s) (steps_used more e t) h.steps g.steps)
    (filled_once no_statement d.statements e.statements _ _ _ (statements_used bytes d s) (statements_used more e t) h.statements g.statements)
    (filled_once no_target d.targets e.targets _ _ _ (targets_used bytes d s) (targets_used more e t) h.targets g.targets)
    (filled_once no_exit d.exits e.exits _ _ _ (exits_used bytes d s) (exits_used more e t) h.exits g.exits)
    (filled_once no_node d.nodes e.nodes _ _ _ (nodes_used bytes d s) (nodes_used more e t) h.nodes g.nodes)
