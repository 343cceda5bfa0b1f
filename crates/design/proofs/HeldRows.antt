-- Tables hold one database at most whose last rows are in use, and sound ones are such. Assumes nothing.
use Rattle.std.proofs.Common.{◌≡◌, ℕ, zero, suc, ◌+◌, ◌<◌, ◌≤◌, List, [], ◌∷◌, ◌++◌, length, get_or, replicate, take, drop, sym, refl, ap, ap₂, ◌∙◌, subst, arith}
use Rattle.std.proofs.lemmas.List.{take-append-drop, get_or-drop, length-drop}
use Rattle.database.specs.Rows.{Database, no_symbol, no_step, no_statement, no_target, no_exit, no_node, symbol, exit, node}
use Rattle.database.specs.Codes.{step_kind, statement_kind}
use Rattle.database.specs.Soundness.{LeavesBy, StatementBy, TargetSound, Sound}
use Rattle.control.specs.Databases.{Begins, Hold}
use Rattle.design.specs.Inner.{EndsInUse, AllEndInUse}

-- rows that are all zero
zeros_are : {A : Type 0} (none : A) (rows : List A) → ((k : ℕ) → k < length rows → get_or rows k none ≡ none) → rows ≡ replicate (length rows) none
zeros_are none [] zeros = refl
zeros_are none (x ∷ xs) zeros = ap₂ (λ z zs. z ∷ zs) (zeros 0 (omega arith)) (zeros_are none xs (λ k h. zeros (suc k) (omega arith)))

-- a table begins with its first rows if all others are zero
pub begins_with : {A : Type 0} (none : A) (table : List A) (n : ℕ) → ((k : ℕ) → n ≤ k → k < length table → get_or table k none ≡ none) → Begins none (take n table) table
begins_with none table n zeros = (
  length (drop n table),
  sym (take-append-drop n table) ∙ ap (λ rest. take n table ++ rest)
      (zeros_are none (drop n table) (λ k h. get_or-drop n table k none ∙ zeros (n + k) (omega arith) (omega (arith, length-drop n table)))),
)

-- rows behind the first
ends_behind : {A : Type 0} (none x : A) (xs : List A) → EndsInUse none (x ∷ xs) → EndsInUse none xs
ends_behind none x [] u one e = absurd (omega arith)
ends_behind none x (y ∷ ys) u one e = u (omega arith) e

-- unused rows do not end with one in use
not_unused : {A : Type 0} (none x : A) (xs rest : List A) (n : ℕ) → EndsInUse none (x ∷ xs) → replicate n none ≡ (x ∷ xs) ++ rest → ⊥
not_unused none x xs rest zero u e = let z : ◌≡◌ {A = ℕ} 0 (length (x ∷ (xs ++ rest))) = ap length e in omega arith
not_unused none x [] rest (suc n) u e = u (omega arith) (let z : x ≡ none = cc in z)
not_unused none x (y ∷ ys) rest (suc n) u e = not_unused none y ys rest n (ends_behind none x (y ∷ ys) u) cc

rows_once : {A : Type 0} (none : A) (xs ys : List A) (m n : ℕ) → EndsInUse none xs → EndsInUse none ys → xs ++ replicate m none ≡ ys ++ replicate n none → xs ≡ ys
rows_once none [] [] m n u v e = refl
rows_once none [] (y ∷ ys) m n u v e = absurd (not_unused none y ys (replicate n none) m v e)
rows_once none (x ∷ xs) [] m n u v e = absurd (not_unused none x xs (replicate m none) n u (sym e))
rows_once none (x ∷ xs) (y ∷ ys) m n u v e =
    let p : x ≡ y = cc in
    let q : xs ++ replicate m none ≡ ys ++ replicate n none = cc in
    ap₂ (λ z zs. z ∷ zs) p (rows_once none xs ys m n (ends_behind none x xs u) (ends_behind none y ys v) q)

begins_once : {A : Type 0} (none : A) (xs ys table : List A) → EndsInUse none xs → EndsInUse none ys → Begins none xs table → Begins none ys table → xs ≡ ys
begins_once none xs ys table u v b c = rows_once none xs ys b.0 c.0 u v (sym b.1 ∙ c.1)

-- databases with the same rows
same_rows : (d e : Database) → d.symbols ≡ e.symbols → d.steps ≡ e.steps → d.statements ≡ e.statements → d.targets ≡ e.targets → d.exits ≡ e.exits → d.nodes ≡ e.nodes → d ≡ e
same_rows d e a b c f g h = λ i. record { symbols = a i; steps = b i; statements = c i; targets = f i; exits = g i; nodes = h i }

held_once : (d e t : Database) → AllEndInUse d → AllEndInUse e → Hold d t → Hold e t → d ≡ e
held_once d e t u v h g =
    same_rows d e
    (begins_once no_symbol d.symbols e.symbols t.symbols u.symbols v.symbols h.symbols g.symbols)
    (begins_once no_step d.steps e.steps t.steps u.steps v.steps h.steps g.steps)
    (begins_once no_statement d.statements e.statements t.statements u.statements v.statements h.statements g.statements)
    (begins_once no_target d.targets e.targets t.targets u.targets v.targets h.targets g.targets)
    (begins_once no_exit d.exits e.exits t.exits u.exits v.exits h.exits g.exits)
    (begins_once no_node d.nodes e.nodes t.nodes u.nodes v.nodes h.nodes g.nodes)

-- no row of a sound database is zero, and so none of the last ones is
sound_ends : (bytes : ℕ) (d : Database) → Sound bytes d → AllEndInUse d
sound_ends bytes d s = record {
  symbols = λ one e. let z : (symbol d (length d.symbols)).length ≡ 0 = ap (λ x. x.length) e in omega (arith, (s.symbols _ (one, omega arith)).named);
  steps = λ one e. subst (λ x. LeavesBy (step_kind x.kind) x.condition) e (s.steps _ (one, omega arith)).leaves;
  statements = λ one e. subst (λ x. StatementBy (statement_kind x.kind) d x) e (s.statements _ (one, omega arith)).kind;
  targets = λ one e. subst (TargetSound d) e (s.targets _ (one, omega arith));
  exits = λ one e. let z : (exit d (length d.exits)).left ≡ 0 = ap (λ x. x.left) e in omega (arith, (s.exits _ (one, omega arith)).left.0);
  nodes = λ one e. let z : (node d (length d.nodes)).width ≡ 0 = ap (λ x. x.width) e in omega (arith, (s.nodes _ (one, omega arith)).width.0);
}

-- the tables hold no sound database but the rows in use
pub rows_held : (bytes : ℕ) (rows tables : Database) → Hold rows tables → AllEndInUse rows → (d : Database) → Sound bytes d → Hold d tables → rows ≡ d
rows_held bytes rows tables held ends d s h = held_once rows d tables ends (sound_ends bytes d s) held h

-- if the rows in use are not sound, the tables hold no sound database
pub none_held : (bytes : ℕ) (rows tables : Database) → Hold rows tables → AllEndInUse rows → (Sound bytes rows → ⊥) → (d : Database) → Sound bytes d → Hold d tables → ⊥
none_held bytes rows tables held ends unsound d s h = unsound (subst (Sound bytes) (sym (rows_held bytes rows tables held ends d s h)) s)
