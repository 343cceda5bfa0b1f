-- The sides of statements of a draft without faults: as wide as their values, and driving no bus before it is read. Assumes nothing.
use Rattle.std.proofs.Common.{◌≡◌, ℕ, ◌+◌, ◌<◌, ◌≤◌, cond, List, [], ◌∷◌, ◌++◌, length, get_or, map, fold, take, drop, Option, Some, None, IsSome, All, sum_by, sym, refl, ap, ◌∙◌, subst, arith}
use Rattle.std.proofs.lemmas.List.{append_assoc, map-append, length-append, take_at, drop_at}
use Rattle.std.proofs.lemmas.List.Elements.{All-nil, All-cons, All-head, All-tail, All-map, All-same, All-take, All-drop, All-contains}
use Rattle.std.proofs.lemmas.List.Sums.{sum_by-cons}
use Rattle.grammar.specs.declared.draft.Class.TheVariants.{Bus}
use Rattle.grammar.specs.declared.draft.Statement.{Statement}
use Rattle.grammar.specs.declared.draft.Target.{Target}
use Rattle.grammar.specs.Drafts.{DraftLists}
use Rattle.least.specs.Each.{row_at, last_of}
use Rattle.symbols.specs.Widths.{both, disagree, wide, width_at, comma_faults, width_up_to}
use Rattle.symbols.specs.References.{item_at, is_bus, bus_of, reference_width}
use Rattle.rules.specs.declared.measures.Side.{Side}
use Rattle.rules.specs.Targets.{target_standing, no_side, earlier, bus_up_to, own_faults, own_width, own_bus, side_up_to, sides, target_faults, targets_faults}
use Rattle.rules.specs.Faults.{known, node_widths, faults}
use Rattle.database.specs.declared.rows.TargetRow.{TargetRow}
use Rattle.database.specs.Rows.{Database, node}
use Rattle.database.specs.Saying.{statement_row, target_row, symbol_number, database_of}
use Rattle.database.specs.Soundness.{IsBus, Reads, target_width, SideSound, TargetsLaid}
use Rattle.soundness.specs.Layout.{SideLaid, OwnTargets, DraftTargetsLaid, Laid}
use Rattle.soundness.proofs.Nil.{nil_left, nil_right, width_kept}
use Rattle.soundness.proofs.Lists.{nil_between, runs, unnumbered}
use Rattle.soundness.proofs.Few.{faultless}
use Rattle.soundness.proofs.Places.{StatementStands, stand}
use Rattle.soundness.proofs.StatementRows.{WidthsThere, StatementRight, statements_right, agree, width_row}
use Rattle.soundness.proofs.TargetRows.{TargetNamed, targets_named, own_targets}

-- the width of a list of parts up to one of them, where there are no faults
abbrev width_next : Option ℕ → Option ℕ → Option ℕ → Option ℕ
width_next None before own = own
width_next (Some place) before own = both ◌+◌ before own

width_next_is : (comma before own : Option ℕ) → comma_faults comma before own ≡ [] → width_up_to comma before own ≡ width_next comma before own
width_next_is None before own e = refl
width_next_is (Some place) before own e = width_kept (disagree wide place before own) (both ◌+◌ before own) e

width_more : (comma before own : Option ℕ) (a b : ℕ) → IsSome comma → before ≡ Some a → own ≡ Some b → width_next comma before own ≡ Some (a + b)
width_more None before own a b h e f = cc
width_more (Some place) before own a b h e f = ap (λ o. both ◌+◌ o own) e ∙ ap (both ◌+◌ (Some a)) f

-- a bus that is there stands at or before another
abbrev AtMost : Option ℕ → ℕ → Type 0
AtMost None k = ⊥
AtMost (Some a) k = a ≤ k

at_most_left : (a b : Option ℕ) (k : ℕ) → AtMost a k → AtMost (earlier a b) k
at_most_left None b k h = absurd h
at_most_left (Some a) None k h = h
at_most_left (Some a) (Some b) k h = omega arith

at_most_right : (a b : Option ℕ) (k : ℕ) → AtMost b k → AtMost (earlier a b) k
at_most_right None b k h = h
at_most_right (Some a) None k h = absurd h
at_most_right (Some a) (Some b) k h = omega arith

bus_left : (comma a b : Option ℕ) (k : ℕ) → IsSome comma → AtMost a k → AtMost (bus_up_to comma a b) k
bus_left None a b k h i = cc
bus_left (Some place) a b k h i = at_most_left a b k i

bus_right : (comma a b : Option ℕ) (k : ℕ) → AtMost b k → AtMost (bus_up_to comma a b) k
bus_right None a b k h = h
bus_right (Some place) a b k h = at_most_right a b k h

at_most_itself : (o : Option ℕ) (k : ℕ) → o ≡ Some k → AtMost o k
at_most_itself o k e = subst (λ p. AtMost p k) (sym e) (omega arith)

-- what the value of a statement reads stands at or before the first bus that its targets drive
abbrev pub BusesInOrder : List ℕ → DraftLists → Type 0
BusesInOrder text d =
    (k before root : ℕ) → SideLaid d.rows.terms.nodes (Some k) before root → (y : ℕ) → Reads (database_of text d) root y → IsBus (database_of text d) y → (first : ℕ)
    → (row_at no_side (known text d).sides k).bus ≡ Some first → y ≤ first

module _ (text : List ℕ) (d : DraftLists) where
  abbrev row : Target → TargetRow
  row t = target_row text d.rows.items d.rows.statements t

  abbrev bus : Target → Option ℕ
  bus t = own_bus text d.rows.items d.rows.statements t

  -- the side up to a target, where there are no faults
  abbrev next : Side → Target → Side
  next before t = record {
    width = width_next t.comma before.width (reference_width text d.rows.items (target_standing d.rows.statements t) t.reference);
    bus = bus_up_to t.comma before.bus (bus t);
  }

  width_rest : (side : Side) (m : ℕ) (ts : List Target) → side.width ≡ Some m → All (λ t. IsSome t.comma) ts → All (TargetNamed text d) ts →
      (fold next side ts).width ≡ Some (m + sum_by target_width (map row ts))
  width_rest side m [] e h a = e ∙ ap Some (let z : m ≡ m + 0 = omega arith in z)
  width_rest side m (t ∷ ts) e h a =
      let named = All-head (TargetNamed text d) t ts a in
      let more = width_more t.comma side.width (reference_width text d.rows.items (target_standing d.rows.statements t) t.reference) m (target_width (row t)) (All-head (λ x. IsSome x.comma) t ts h) e named.width in
      width_rest (next side t) (m + target_width (row t)) ts more (All-tail (λ x. IsSome x.comma) t ts h) (All-tail (TargetNamed text d) t ts a)
      ∙ ap Some (let z = sum_by-cons target_width (row t) (map row ts) in omega arith)

  width_own : (n : ℕ) (side : Side) (own : List Target) → OwnTargets n own → All (TargetNamed text d) own → (fold next side own).width ≡ Some (sum_by target_width (map row own))
  width_own n side [] h a = absurd h
  width_own n side (t ∷ ts) h a =
      let named = All-head (TargetNamed text d) t ts a in
      let first : (next side t).width ≡ Some (target_width (row t)) =
      ap (λ c. width_next c side.width (reference_width text d.rows.items (target_standing d.rows.statements t) t.reference)) h.1 ∙ named.width in
      width_rest (next side t) (target_width (row t)) ts first (λ k e l. (h.2 k e l).1) (All-tail (TargetNamed text d) t ts a)
      ∙ ap Some (sym (sum_by-cons target_width (row t) (map row ts)))

  bus_rest : (side : Side) (k : ℕ) (ts : List Target) → AtMost side.bus k → All (λ t. IsSome t.comma) ts → AtMost (fold next side ts).bus k
  bus_rest side k [] h a = h
  bus_rest side k (t ∷ ts) h a = bus_rest (next side t) k ts (bus_left t.comma side.bus (bus t) k (All-head (λ x. IsSome x.comma) t ts a) h) (All-tail (λ x. IsSome x.comma) t ts a)

  -- the bus of a side stands at or before that target's
  abbrev Behind : Option ℕ → Target → Type 0
  Behind first t = (k : ℕ) → bus t ≡ Some k → AtMost first k

  buses_rest : (side : Side) (ts : List Target) → All (λ t. IsSome t.comma) ts → All (Behind (fold next side ts).bus) ts
  buses_rest side [] a = All-nil (Behind side.bus)
  buses_rest side (t ∷ ts) a =
      let later = All-tail (λ x. IsSome x.comma) t ts a in
      All-cons (Behind (fold next (next side t) ts).bus) t ts
      (λ k e. bus_rest (next side t) k ts (bus_right t.comma side.bus (bus t) k (at_most_itself (bus t) k e)) later)
      (buses_rest (next side t) ts later)

  buses_own : (n : ℕ) (side : Side) (own : List Target) → OwnTargets n own → All (Behind (fold next side own).bus) own
  buses_own n side [] h = absurd h
  buses_own n side (t ∷ ts) h =
      let later : All (λ x. IsSome x.comma) ts = λ k e l. (h.2 k e l).1 in
      All-cons (Behind (fold next (next side t) ts).bus) t ts
      (λ k e. bus_rest (next side t) k ts (bus_right t.comma side.bus (bus t) k (at_most_itself (bus t) k e)) later)
      (buses_rest (next side t) ts later)

  module _ (none : faults text d ≡ []) where
    side_goes : (front : List Target) (t : Target) (rest : List Target) → d.rows.targets ≡ front ++ t ∷ rest →
        side_up_to text d.rows.items d.rows.statements (sides text d.rows.items d.rows.statements front) t ≡ next (last_of no_side (sides text d.rows.items d.rows.statements front)) t
    side_goes front t rest e =
        let before : List Side = sides text d.rows.items d.rows.statements front in
        let last : Option ℕ = (last_of no_side before).width in
        let own : Option ℕ = own_width text d.rows.items d.rows.statements (length before) t in
        let a = own_faults text d.rows.items d.rows.statements (length before) t in
        let b = comma_faults t.comma last own in
        let here : a ++ b ≡ [] =
        nil_between (λ before t. target_faults text d.rows.items d.rows.statements (sides text d.rows.items d.rows.statements before) t) [] front t rest
        (subst (λ ts. targets_faults text d.rows.items d.rows.statements ts ≡ []) e (faultless text d none).targets) in
        let width = reference_width text d.rows.items (target_standing d.rows.statements t) t.reference in
        let same : own ≡ width = width_kept a width (nil_left a b here) in
        let wide : width_up_to t.comma last own ≡ width_next t.comma last width = width_next_is t.comma last own (nil_right a b here) ∙ ap (width_next t.comma last) same in
        λ i. record { width = wide i; bus = bus_up_to t.comma (last_of no_side before).bus (bus t) }

    -- the side up to the last target of a statement
    side_is : (front own more : List Target) → d.rows.targets ≡ front ++ (own ++ more) → (last : ℕ) → last ≡ length front + length own →
        row_at no_side (known text d).sides last ≡ fold next (last_of no_side (sides text d.rows.items d.rows.statements front)) own
    side_is front own more e last l = runs no_side (side_up_to text d.rows.items d.rows.statements) next d.rows.targets side_goes front own more e last l

    -- a target that is a bus stands behind each bus that the value reads
    bus_is : (t : Target) (named : TargetNamed text d t) → IsBus (database_of text d) (row t).symbol → bus t ≡ Some named.index
    bus_is t named b =
        let class : (item_at d.rows.items named.index).class ≡ Bus = let z = sym named.class ∙ b in cc in
        ap (bus_of d.rows.items) named.is ∙ ap (λ c. cond (is_bus c) (Some named.index) None) class

    at_most_order : BusesInOrder text d → (s : Statement) (before : ℕ) → SideLaid d.rows.terms.nodes (Some s.last_target) before s.value → (first : Option ℕ) →
        (row_at no_side (known text d).sides s.last_target).bus ≡ first → (k : ℕ) → AtMost first k → (y : ℕ) → Reads (database_of text d) s.value y → IsBus (database_of text d) y → y ≤ k
    at_most_order order s before side None e k h y reads c = absurd h
    at_most_order order s before side (Some first) e k h y reads c = let z : y ≤ first = order s.last_target before s.value side y reads c first e in omega arith

    reads_before : BusesInOrder text d → (s : Statement) (before : ℕ) → SideLaid d.rows.terms.nodes (Some s.last_target) before s.value → (first : Option ℕ) →
        (row_at no_side (known text d).sides s.last_target).bus ≡ first → (t : Target) → TargetNamed text d t → Behind first t → IsBus (database_of text d) (row t).symbol →
        (y : ℕ) → Reads (database_of text d) s.value y → IsBus (database_of text d) y → y < (row t).symbol
    reads_before order s before side first e t named behind b y reads c =
        let z : y ≤ named.index = at_most_order order s before side first e named.index (behind named.index (bus_is t named b)) y reads c in
        let n : (row t).symbol ≡ named.index + 1 = ap symbol_number named.is in
        omega arith

    module _ (widths_there : WidthsThere text d) (order : BusesInOrder text d) where
      side_sound : (n total : ℕ) (s : Statement) (front own more : List Target) → d.rows.targets ≡ front ++ (own ++ more) → s.last_target ≡ length front + length own → OwnTargets n own →
          StatementRight text d s → StatementStands d.rows.terms.nodes total s → All (TargetNamed text d) own → SideSound (database_of text d) (statement_row s) (map row own)
      side_sound n total s front own more e l mine right stands named =
          let start = last_of no_side (sides text d.rows.items d.rows.statements front) in
          let side : row_at no_side (known text d).sides s.last_target ≡ fold next start own = side_is front own more e s.last_target l in
          let Right : TargetRow → Type 0 = λ t. IsBus (database_of text d) t.symbol → (y : ℕ) → Reads (database_of text d) s.value y → IsBus (database_of text d) y → y < t.symbol in
          let right_order : All Right (map row own) =
          All-map Right row own (λ k x i.
          reads_before order s stands.before stands.side (fold next start own).bus (ap (λ z. z.bus) side) (get_or own k x) (named k x i) (buses_own n start own mine k x i)) in
          record {
            wide = agree s.sign (row_at no_side (known text d).sides s.last_target).width (width_at (node_widths text d) s.value) (sum_by target_width (map row own)) (node (database_of text d) s.value).width
                (ap (λ z. z.width) side ∙ width_own n start own mine named) (width_row text d none widths_there s.value stands.value) right.sides;
            order = λ t c. All-contains Right (map row own) t right_order c;
          }

      targets_laid : (n total : ℕ) (ss : List Statement) (front ts : List Target) (passed : ℕ) → d.rows.targets ≡ front ++ ts → passed ≡ length front →
          All (StatementRight text d) ss → All (StatementStands d.rows.terms.nodes total) ss → All (TargetNamed text d) ts → DraftTargetsLaid n ss ts passed →
          TargetsLaid (database_of text d) n (map statement_row ss) (map row ts)
      targets_laid n total [] front ts passed e f right stands named l = ap (map row) l
      targets_laid n total (s ∷ ss) front ts passed e f right stands named (own, others, p, mine, last, rest) =
          let parted : d.rows.targets ≡ front ++ (own ++ others) = e ∙ ap (λ xs. front ++ xs) p in
          let both_named : All (TargetNamed text d) (own ++ others) = All-same (TargetNamed text d) (own ++ others) ts (sym p) named in
          let own_named : All (TargetNamed text d) own =
          All-same (TargetNamed text d) own (take (length own) (own ++ others)) (sym (take_at own others (length own) refl)) (All-take (TargetNamed text d) (length own) (own ++ others) both_named) in
          let others_named : All (TargetNamed text d) others =
          All-same (TargetNamed text d) others (drop (length own) (own ++ others)) (sym (drop_at own others (length own) refl)) (All-drop (TargetNamed text d) (length own) (own ++ others) both_named) in (
            map row own,
            map row others,
            ap (map row) p ∙ map-append row own others,
            All-map (λ t. t.statement ≡ n) row own (own_targets n own mine),
            side_sound n total s front own others parted (omega arith) mine (All-head (StatementRight text d) s ss right) (All-head (StatementStands d.rows.terms.nodes total) s ss stands) own_named,
            targets_laid (n + 1) total ss (front ++ own) others (passed + length own) (parted ∙ sym (append_assoc front own others)) (let z = length-append front own in omega arith)
                (All-tail (StatementRight text d) s ss right) (All-tail (StatementStands d.rows.terms.nodes total) s ss stands) others_named rest,
          )

      pub sides_laid : Laid d.rows → TargetsLaid (database_of text d) 1 (database_of text d).statements (database_of text d).targets
      unfolding database_of
      sides_laid laid =
          let there : Database = database_of text d in
          let rows = targets_laid 1 (length d.rows.steps) d.rows.statements [] d.rows.targets 0 refl refl (statements_right text d none) (stand d.rows laid).statements (targets_named text d none) laid.targets in
          subst (λ ts. TargetsLaid there 1 there.statements ts) (sym (unnumbered row d.rows.targets))
          (subst (λ ss. TargetsLaid there 1 ss (map row d.rows.targets)) (sym (unnumbered statement_row d.rows.statements)) rows)
