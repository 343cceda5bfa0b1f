-- Tables written from the front. Assumes nothing.
use Rattle.std.proofs.Common.{◌≡◌, ℕ, ◌+◌, ◌-◌, ◌<◌, ◌≤◌, List, [], ◌∷◌, ◌++◌, length, get_or, take, drop, set, replicate, sym, ap, ◌∙◌, ⊎_elim, arith}
use Rattle.std.proofs.lemmas.Bool.{cases_lt}
use Rattle.std.proofs.lemmas.List.{drop_more, drop_all, take_all, take_more, set_at, append_assoc, append-nil, length-append, length-take-le, length-replicate, replicate_more, get_or_past}
use Rattle.database.specs.Rows.{Database}
use Rattle.database.specs.Tables.{TableLists, filled, Fits, fitting}

-- one row more
pub fill_turn : {A : Type 0} (rows old : List A) (n : ℕ) (v : A) → length rows ≡ n → n < length old → set (rows ++ drop n old) n v ≡ (rows ++ v ∷ []) ++ drop (n + 1) old
fill_turn rows old n v e h =
    ap (λ t. set (rows ++ t) n v) (drop_more old n v h) ∙ set_at rows (get_or old n v) (drop (n + 1) old) v n e ∙ sym (append_assoc rows (v ∷ []) (drop (n + 1) old))

-- no row is left
pub fill_end : {A : Type 0} (rows old : List A) (n : ℕ) → length old ≤ n → rows ++ drop n old ≡ rows
fill_end rows old n h = ap (λ d. rows ++ d) (drop_all n old h) ∙ append-nil rows

-- one unused row more, and no row is left
pub clear_turn : {A : Type 0} (old t : List A) (n : ℕ) (none v : A) → v ≡ none → n < length old → t ≡ replicate n none ++ drop n old → set t n v ≡ replicate (n + 1) none ++ drop (n + 1) old
clear_turn old t n none v z h e =
    ap (λ x. set t n x) z ∙ ap (λ x. set x n none) e ∙ fill_turn (replicate n none) old n none (length-replicate n none) h
    ∙ ap (λ r. r ++ drop (n + 1) old) (replicate_more n none)

pub clear_end : {A : Type 0} (old t : List A) (n : ℕ) (none : A) → length old ≤ n → n ≤ length old → t ≡ replicate n none ++ drop n old → t ≡ replicate (length old) none
clear_end old t n none h k e =
    let all : n ≡ length old = omega arith in
    e ∙ fill_end (replicate n none) old n h ∙ ap (λ m. replicate m none) all

-- the first rows of a table that holds these, so many of them
abbrev pub begun : {A : Type 0} → A → List A → ℕ → List A
begun none rows n = filled none n (take n rows)

begun_used : {A : Type 0} (none : A) (rows : List A) (n : ℕ) → n ≤ length rows → begun none rows n ≡ take n rows
begun_used none rows n h =
    let no : n - length (take n rows) ≡ 0 = omega (arith, length-take-le n rows h) in
    ap (λ m. take n rows ++ replicate m none) no ∙ append-nil (take n rows)

begun_unused : {A : Type 0} (none : A) (rows : List A) (n : ℕ) → length rows ≤ n → begun none rows n ≡ filled none n rows
begun_unused none rows n h = ap (filled none n) (take_all n rows h)

begun_more : {A : Type 0} (none : A) (rows : List A) (n : ℕ) → begun none rows n ++ get_or rows n none ∷ [] ≡ begun none rows (n + 1)
begun_more none rows n =
    ⊎_elim
    (λ used. ap (λ r. r ++ get_or rows n none ∷ []) (begun_used none rows n (omega arith)) ∙ sym (take_more rows n none used) ∙ sym (begun_used none rows (n + 1) (omega arith)))
    (λ past.
    let more : n - length rows + 1 ≡ n + 1 - length rows = omega arith in
    ap (λ r. r ++ get_or rows n none ∷ []) (begun_unused none rows n past)
    ∙ ap (λ x. filled none n rows ++ x ∷ []) (get_or_past rows n none past)
    ∙ append_assoc rows (replicate (n - length rows) none) (none ∷ [])
    ∙ ap (λ r. rows ++ r) (replicate_more (n - length rows) none)
    ∙ ap (λ m. rows ++ replicate m none) more
    ∙ sym (begun_unused none rows (n + 1) (omega arith)))
    (cases_lt n (length rows))

length_begun : {A : Type 0} (none : A) (rows : List A) (n : ℕ) → length (begun none rows n) ≡ n
length_begun none rows n =
    ⊎_elim
    (λ used. ap length (begun_used none rows n (omega arith)) ∙ length-take-le n rows (omega arith))
    (λ past. ap length (begun_unused none rows n past) ∙ length-append rows (replicate (n - length rows) none) ∙ ap (λ m. length rows + m) (length-replicate (n - length rows) none) ∙ (omega arith))
    (cases_lt n (length rows))

-- a table written row by row
pub write_turn : {A : Type 0} (none : A) (rows old t : List A) (n : ℕ) (v : A) → v ≡ get_or rows n none → n < length old → t ≡ begun none rows n ++ drop n old → set t n v ≡ begun none rows (n + 1) ++ drop (n + 1) old
write_turn none rows old t n v is h e =
    ap (λ x. set x n v) e ∙ fill_turn (begun none rows n) old n v (length_begun none rows n) h
    ∙ ap (λ x. (begun none rows n ++ x ∷ []) ++ drop (n + 1) old) is ∙ ap (λ r. r ++ drop (n + 1) old) (begun_more none rows n)

pub write_end : {A : Type 0} (none : A) (rows old t : List A) (n : ℕ) → length old ≤ n → n ≤ length old → t ≡ begun none rows n ++ drop n old → t ≡ begun none rows (length old)
write_end none rows old t n h k e =
    let all : n ≡ length old = omega arith in
    e ∙ fill_end (begun none rows n) old n h ∙ ap (begun none rows) all

-- tables that a database fits have room for all its rows
pub all_fitting : (d : Database) (t : TableLists) → Fits d t → fitting t d ≡ d
all_fitting d t f = λ i. record {
  symbols = take_all (length t.symbols) d.symbols f.symbols i;
  steps = take_all (length t.steps) d.steps f.steps i;
  statements = take_all (length t.statements) d.statements f.statements i;
  targets = take_all (length t.targets) d.targets f.targets i;
  exits = take_all (length t.exits) d.exits f.exits i;
  nodes = take_all (length t.nodes) d.nodes f.nodes i;
}
