-- Letters that are settled under related held letters are related. The rules are followed turn by turn: each turn makes letters of the
-- letters of the turn before, and after enough turns all letters in use are related. Assumes nothing.
use Rattle.std.proofs.Common.{◌≡◌, ℕ, zero, suc, ◌+◌, ◌-◌, ◌*◌, ◌<◌, ◌≤◌, length, Some, ⊎_elim, refl, ap, sym, ◌∙◌, subst, subst₂, arith}
use Rattle.std.proofs.lemmas.Bool.{cases_lt}
use Rattle.level.specs.declared.letter.Letter.{Letter}
use Rattle.least.specs.Each.{IsRow}
use Rattle.database.specs.declared.codes.NodeSign.TheVariants.{Name}
use Rattle.database.specs.Codes.{sign_of}
use Rattle.database.specs.Rows.{Database, statement, target, node}
use Rattle.database.specs.Soundness.{Reads, named, left, right}
use Rattle.control.specs.Points.{rank_of, width_of, point_of, step_point, held_bits, all_bits, held_step, held_count}
use Rattle.control.specs.Letters.{Letters, node_bit, node_letter}
use Rattle.control.specs.Rules.{step_letter, driven, Settled}
use Rattle.control.specs.Laws.{Agree}
use Rattle.control.specs.Usable.{MadeBy, Usable}
use Rattle.settling.proofs.Agree.{Respects, PointFacts, NodeBy, SymbolBy, StepsBy, letter_related, driven_related}

-- u is what the rules make of the letters v, under the held letters h
pub record Made (d : Database) (h v u : Letters) : Type 0 where
  pub held : (p : ℕ) → p < held_bits d → u p ≡ h p
  pub steps : (s : ℕ) → IsRow d.steps s → step_letter d u s ≡ h (held_step d s)
  pub nodes : (n b : ℕ) → IsRow d.nodes n → b < (node d n).width → node_bit u n b ≡ node_letter d v n b
  pub driven : (y b : ℕ) → IsRow d.symbols y → 3 ≤ rank_of d y → b < width_of d y → u (point_of d y b) ≡ driven d v y b

-- settled letters are what the rules make of them
pub settled_made : (d : Database) (h w : Letters) → Settled d h w → Made d h w w
settled_made d h w s = record { held = s.held; steps = s.steps; nodes = s.nodes; driven = s.driven }

-- the held letters in use are related
abbrev pub HeldBy : (Letter → Letter → Type 0) → Database → Letters → Letters → Type 0
HeldBy R d h g = (p : ℕ) → p < held_count d → R (h p) (g p)

-- a node reads only buses before y
abbrev pub ReadsBefore : Database → ℕ → ℕ → Type 0
ReadsBefore d y n = (z : ℕ) → Reads d n z → rank_of d z ≡ 3 → z < y

-- the turn at which the buses before y and the first n nodes that read only these have their letters
abbrev pub turn : ℕ → ℕ → ℕ
turn y n = 1 + 514 * y + n

-- what is related after t turns
pub record RelatedBy (R : Letter → Letter → Type 0) (d : Database) (t : ℕ) (v w : Letters) : Type 0 where
  pub held : 1 ≤ t → (p : ℕ) → p < held_bits d → R (v p) (w p)
  pub steps : 1 ≤ t → StepsBy R d v w
  pub nodes : (y n : ℕ) → IsRow d.nodes n → ReadsBefore d y n → turn y n ≤ t → NodeBy R d v w n
  pub buses : (y : ℕ) → IsRow d.symbols y → rank_of d y ≡ 3 → turn (y + 1) 0 ≤ t → SymbolBy R d v w y
  pub outputs : (y : ℕ) → IsRow d.symbols y → 4 ≤ rank_of d y → turn (length d.symbols + 2) 0 ≤ t → SymbolBy R d v w y

module _ (d : Database) (usable : Usable d) where
  pub names_row : {n : ℕ} → IsRow d.nodes n → sign_of (node d n).sign ≡ Some Name → IsRow d.symbols (node d n).symbol × (rank_of d (node d n).symbol ≤ 3)
  names_row {n} row e = let by = subst (λ s. MadeBy s d (node d n)) e (usable.nodes n row).made in (by.0, by.1)

  pub reads_row : {n z : ℕ} → Reads d n z → IsRow d.symbols z
  reads_row (named row e is) = subst (IsRow d.symbols) is (names_row row e).0
  reads_row (left row r) = reads_row r
  reads_row (right row r) = reads_row r

  reads_all : (n : ℕ) → ReadsBefore d (length d.symbols + 1) n
  reads_all n z r is = let row = reads_row r in omega (arith, row.1)

module _ (R : Letter → Letter → Type 0) (ops : Respects R) (d : Database) (usable : Usable d) (facts : PointFacts d) where
  module _ (t : ℕ) (v w : Letters) (by : RelatedBy R d t v w) where
    symbol_by : (y : ℕ) → IsRow d.symbols y → rank_of d y ≤ 3 → 1 ≤ t → (rank_of d y ≡ 3 → turn (y + 1) 0 ≤ t) → SymbolBy R d v w y
    symbol_by y row low one late b wide =
        ⊎_elim
        (λ first. let end = facts.held_ends y row (omega (arith, first)) in by.held one (point_of d y b) (omega (arith, end)))
        (λ high. let is : rank_of d y ≡ 3 = omega (arith, high) in by.buses y row is (late is) b wide)
        (cases_lt (rank_of d y) 3)

    node_next : (y n b : ℕ) → IsRow d.nodes n → ReadsBefore d y n → turn y n ≤ t + 1 → b < (node d n).width → R (node_letter d v n b) (node_letter d w n b)
    node_next y n b row reads late wide =
        let x = usable.nodes n row in
        letter_related R ops d usable v w (sign_of (node d n).sign) (node d n) b wide x.made
        (λ e.
        let is = names_row d usable row e in
        symbol_by (node d n).symbol is.0 is.1 (omega (arith, row.0)) (λ bus. let before = reads (node d n).symbol (named row e refl) bus in omega (arith, before, row.0)))
        (λ l. by.nodes y (node d n).left l (λ z r. reads z (left row r)) (omega (arith, x.left)))
        (λ r. by.nodes y (node d n).right r (λ z q. reads z (right row q)) (omega (arith, x.right)))

    bus_next : (y b : ℕ) → IsRow d.symbols y → rank_of d y ≡ 3 → turn (y + 1) 0 ≤ t + 1 → R (driven d v y b) (driven d w y b)
    bus_next y b row is late =
        driven_related R ops d usable v w y b (by.steps (omega arith))
        (λ u target_row e.
        let x = usable.targets u target_row in
        let bus : rank_of d (target d u).symbol ≡ 3 = ap (rank_of d) e ∙ is in
        let value = (usable.statements (target d u).statement x.row).value in
        by.nodes y (statement d (target d u).statement).value value (λ z r q. subst (λ s. z < s) e (x.order bus z r q)) (let few = usable.few_nodes in omega (arith, value.1)))
        (λ u target_row e has.
        let x = usable.targets u target_row in
        let bus : rank_of d (target d u).symbol ≡ 3 = ap (rank_of d) e ∙ is in
        absurd (let none = x.unconditional bus in omega (arith, none, has)))

    output_next : (y b : ℕ) → IsRow d.symbols y → turn (length d.symbols + 2) 0 ≤ t + 1 → R (driven d v y b) (driven d w y b)
    output_next y b row late =
        let few = usable.few_nodes in
        let all : (n : ℕ) → IsRow d.nodes n → NodeBy R d v w n = λ n node_row. by.nodes (length d.symbols + 1) n node_row (reads_all d usable n) (omega (arith, node_row.1)) in
        driven_related R ops d usable v w y b (by.steps (omega arith))
        (λ u target_row e. all _ (usable.statements (target d u).statement (usable.targets u target_row).row).value)
        (λ u target_row e has. all _ (has, (usable.statements (target d u).statement (usable.targets u target_row).row).condition))

  -- one turn more
  pub related_next : (t : ℕ) (h g v w x y : Letters) → HeldBy R d h g → RelatedBy R d t v w → Made d h v x → Made d g w y → RelatedBy R d (t + 1) x y
  related_next t h g v w x y held by p q = record {
    held = λ one k low. subst₂ R (sym (p.held k low)) (sym (q.held k low)) (held k (omega arith));
    steps = λ one s row. subst₂ R (sym (p.steps s row)) (sym (q.steps s row)) (held (held_step d s) (omega (arith, row.0, row.1)));
    nodes = λ z n row reads late b wide. subst₂ R (sym (p.nodes n b row wide)) (sym (q.nodes n b row wide)) (node_next t v w by z n b row reads late wide);
    buses = λ z row is late b wide. subst₂ R (sym (p.driven z b row (omega (arith, is)) wide)) (sym (q.driven z b row (omega (arith, is)) wide)) (bus_next t v w by z b row is late);
    outputs = λ z row high late b wide. subst₂ R (sym (p.driven z b row (omega (arith, high)) wide)) (sym (q.driven z b row (omega (arith, high)) wide)) (output_next t v w by z b row late);
  }

  -- before any turn nothing is said
  pub related_first : (v w : Letters) → RelatedBy R d 0 v w
  related_first v w = record {
    held = λ one. absurd (omega (arith, one));
    steps = λ one. absurd (omega (arith, one));
    nodes = λ y n row reads late. absurd (omega (arith, late));
    buses = λ y row is late. absurd (omega (arith, late));
    outputs = λ y row high late. absurd (omega (arith, late));
  }

  -- after the last turn all letters in use are related
  pub related_last : (t : ℕ) (v w : Letters) → turn (length d.symbols + 2) 0 ≤ t → RelatedBy R d t v w → Agree R d v w
  related_last t v w late by = record {
    points = λ p low.
        ⊎_elim
        (λ bit.
        let (y, b, row, wide, is) = facts.found p bit in
        subst (λ k. R (v k) (w k)) (sym is)
        (⊎_elim
        (λ low_rank. symbol_by t v w by y row (omega (arith, low_rank)) (omega arith) (λ e. omega (arith, row.1)) b wide)
        (λ high. by.outputs y row high late b wide)
        (cases_lt (rank_of d y) 4)))
        (λ step.
        let s : ℕ = p - all_bits d + 1 in
        let is : step_point d s ≡ p = omega arith in
        subst (λ k. R (v k) (w k)) is (by.steps (omega arith) s (omega arith, omega arith)))
        (cases_lt p (all_bits d));
    nodes = λ n b row wide. let few = usable.few_nodes in by.nodes (length d.symbols + 1) n row (reads_all d usable n) (omega (arith, row.1)) b wide;
  }

  module _ (h g v w : Letters) (held : HeldBy R d h g) (p : Settled d h v) (q : Settled d g w) where
    related_turn : (t : ℕ) → RelatedBy R d t v w
    related_turn zero = related_first v w
    related_turn (suc t) = subst (λ k. RelatedBy R d k v w) (let e : t + 1 ≡ suc t = omega arith in e) (related_next t h g v w v w held (related_turn t) (settled_made d h v p) (settled_made d g w q))

    -- letters that are settled under related held letters are related
    pub settled_related : Agree R d v w
    settled_related = let t : ℕ = turn (length d.symbols + 2) 0 in related_last t v w (omega arith) (related_turn t)
