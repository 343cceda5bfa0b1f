-- The targets of a database lie as its soundness says: what follows for each. Assumes nothing.
use Rattle.std.proofs.Common.{◌≡◌, ℕ, zero, suc, ◌+◌, ◌<◌, ◌≤◌, ◌==◌, cond, List, [], ◌∷◌, ◌++◌, length, get_or, sum_by, All, ap, ◌∙◌, subst, zero-add, arith}
use Rattle.std.proofs.lemmas.List.Elements.{All-nil, All-append, All-same, All-weaker, Contains-get_or}
use Rattle.std.proofs.lemmas.List.Sums.{sum_by-append}
use Rattle.least.specs.Each.{IsRow}
use Rattle.database.specs.declared.rows.StatementRow.{StatementRow}
use Rattle.database.specs.declared.rows.TargetRow.{TargetRow}
use Rattle.database.specs.Rows.{Database, no_statement, statement, node}
use Rattle.database.specs.Soundness.{Reads, IsBus, target_width, SideSound, TargetsLaid}
use Rattle.settling.proofs.UsableRows.{sum_agrees, sum_nothing, counted_here, counted_elsewhere}

-- the bits of a target of that statement
abbrev pub bits_of_target : ℕ → TargetRow → ℕ
bits_of_target n t = cond (t.statement == n) (target_width t) 0

-- a target of one of the statements from that number on; a bus stands behind those that are read for it
pub record TargetStands (d : Database) (n : ℕ) (ss : List StatementRow) (t : TargetRow) : Type 0 where
  pub place : ℕ
  pub there : place < length ss
  pub statement : t.statement ≡ n + place
  pub order : IsBus d t.symbol → (y : ℕ) → Reads d (get_or ss place no_statement).value y → IsBus d y → y < t.symbol

-- the targets of a statement are as wide as its value
abbrev pub Wide : Database → ℕ → StatementRow → List TargetRow → Type 0
Wide d n s ts = sum_by (bits_of_target n) ts ≡ (node d s.value).width

pub record TargetsStand (d : Database) (n : ℕ) (ss : List StatementRow) (ts : List TargetRow) : Type 0 where
  pub each : All (TargetStands d n ss) ts
  pub wide : (k : ℕ) → k < length ss → Wide d (n + k) (get_or ss k no_statement) ts

-- the targets of the first statement, and of a later one, among those of all
first_wide : (n : ℕ) (own others : List TargetRow) → All (λ t. t.statement ≡ n) own → All (λ t. n + 1 ≤ t.statement) others
    → sum_by (bits_of_target (n + 0)) (own ++ others) ≡ sum_by target_width own
first_wide n own others mine later =
    let here = sum_agrees (bits_of_target (n + 0)) target_width own
    (All-weaker (λ (t : TargetRow). t.statement ≡ n) (λ t. bits_of_target (n + 0) t ≡ target_width t) (λ t h. counted_here t.statement (n + 0) (target_width t) (omega arith)) own mine) in
    let there = sum_nothing (bits_of_target (n + 0)) others
    (All-weaker (λ (t : TargetRow). n + 1 ≤ t.statement) (λ t. bits_of_target (n + 0) t ≡ 0) (λ t h. counted_elsewhere t.statement (n + 0) (target_width t) (λ i. omega arith)) others later) in
    sum_by-append (bits_of_target (n + 0)) own others ∙ omega (arith, here, there)

later_wide : (n k : ℕ) (own others : List TargetRow) → All (λ t. t.statement ≡ n) own → sum_by (bits_of_target (n + suc k)) (own ++ others) ≡ sum_by (bits_of_target (n + 1 + k)) others
later_wide n k own others mine =
    let same : n + suc k ≡ n + 1 + k = omega arith in
    let there = sum_nothing (bits_of_target (n + suc k)) own
    (All-weaker (λ (t : TargetRow). t.statement ≡ n) (λ t. bits_of_target (n + suc k) t ≡ 0) (λ t h. counted_elsewhere t.statement (n + suc k) (target_width t) (λ i. omega arith)) own mine) in
    sum_by-append (bits_of_target (n + suc k)) own others ∙ ap (λ m. m + sum_by (bits_of_target (n + suc k)) others) there ∙ zero-add (sum_by (bits_of_target (n + suc k)) others) ∙ ap (λ m. sum_by (bits_of_target m) others) same

-- a target of the first statement
own_stands : (d : Database) (n : ℕ) (s : StatementRow) (ss : List StatementRow) (own : List TargetRow) → All (λ t. t.statement ≡ n) own → SideSound d s own → All (TargetStands d n (s ∷ ss)) own
own_stands d n s ss own mine side k e h = record {
  place = 0;
  there = omega arith;
  statement = mine k e h ∙ omega arith;
  order = side.order (get_or own k e) (Contains-get_or own k e h);
}

-- and of a later one
later_stands : (d : Database) (n : ℕ) (s : StatementRow) (ss : List StatementRow) (t : TargetRow) → TargetStands d (n + 1) ss t → TargetStands d n (s ∷ ss) t
later_stands d n s ss t x = let z = x.there in let e = x.statement in record {
  place = suc x.place;
  there = omega arith;
  statement = e ∙ omega arith;
  order = x.order;
}

module _ (d : Database) where
  wide_on : (n : ℕ) (s : StatementRow) (ss : List StatementRow) (ts own others : List TargetRow) → ts ≡ own ++ others → All (λ t. t.statement ≡ n) own → SideSound d s own
      → TargetsStand d (n + 1) ss others → (k : ℕ) → k < suc (length ss) → Wide d (n + k) (get_or (s ∷ ss) k no_statement) ts
  wide_on n s ss ts own others p mine side rest zero h =
      let later : All (λ (t : TargetRow). n + 1 ≤ t.statement) others =
      All-weaker (TargetStands d (n + 1) ss) (λ t. n + 1 ≤ t.statement) (λ t x. let e = x.statement in omega arith) others rest.each in
      ap (sum_by (bits_of_target (n + 0))) p ∙ first_wide n own others mine later ∙ side.wide
  wide_on n s ss ts own others p mine side rest (suc k) h = ap (sum_by (bits_of_target (n + suc k))) p ∙ later_wide n k own others mine ∙ rest.wide k (omega arith)

  pub targets_stand : (n : ℕ) (ss : List StatementRow) (ts : List TargetRow) → TargetsLaid d n ss ts → TargetsStand d n ss ts
  targets_stand n [] ts none = record {
    each = All-same (TargetStands d n []) ts [] none (All-nil (TargetStands d n []));
    wide = λ k h. absurd (omega arith);
  }
  targets_stand n (s ∷ ss) ts (own, others, p, mine, side, laid) =
      let rest : TargetsStand d (n + 1) ss others = targets_stand (n + 1) ss others laid in
      record {
        each = All-same (TargetStands d n (s ∷ ss)) ts (own ++ others) p
            (All-append (TargetStands d n (s ∷ ss)) own others (own_stands d n s ss own mine side)
            (All-weaker (TargetStands d (n + 1) ss) (TargetStands d n (s ∷ ss)) (later_stands d n s ss) others rest.each));
        wide = wide_on n s ss ts own others p mine side rest;
      }

  -- the targets of each statement are as wide as its value
  pub wide_row : TargetsStand d 1 d.statements d.targets → (n : ℕ) → IsRow d.statements n → Wide d n (statement d n) d.targets
  wide_row x zero h = absurd (let z = h.0 in omega arith)
  wide_row x (suc k) h =
      let same : 1 + k ≡ suc k = omega arith in
      subst (λ n. Wide d n (statement d (suc k)) d.targets) same (x.wide k (let z = h.1 in omega arith))
