-- Letters that are related make letters that are related, by each rule: of a node, of a bus, of a register, of a step. Assumes nothing.
use Rattle.std.proofs.Common.{◌≡◌, ℕ, zero, suc, ◌+◌, ◌-◌, ◌<◌, ◌≤◌, Bool, true, false, cond, ◌==◌, nat_lt, length, Option, Some, None, refl, sym, subst, arith, eqb-true, leb-true}
use Rattle.std.proofs.lemmas.Bool.{and_parts, eqb-false, ltb-true, ltb-false}
use Rattle.level.specs.declared.letter.Letter.{Letter}
use Rattle.level.specs.declared.letter.Letter.TheVariants.{Zero, One, Unknown}
use Rattle.level.specs.Letters.{not_l, and_l, or_l, xor_l}
use Rattle.least.specs.Each.{IsRow}
use Rattle.database.specs.declared.codes.StepKind.{StepKind}
use Rattle.database.specs.declared.codes.StepKind.TheVariants.{Next, Branch, Conditions, DeadEnd}
use Rattle.database.specs.declared.codes.NodeSign.{NodeSign}
use Rattle.database.specs.declared.codes.NodeSign.TheVariants.{Name, Constant, Comma, And, Or, Xor, Not, AndReduce, OrReduce, XorReduce}
use Rattle.database.specs.declared.rows.NodeRow.{NodeRow}
use Rattle.database.specs.Codes.{step_kind}
use Rattle.database.specs.Rows.{Database, step, statement, target, exit, node}
use Rattle.control.specs.Points.{rank_of, width_of, point_of, input_bits, held_bits, all_bits, base, offset, place}
use Rattle.control.specs.Letters.{Letters, joined, node_bit, side, letter_by}
use Rattle.control.specs.Rules.{step_letter, guard, target_guard, names, over_targets, guarded, driven, loaded, next_bit, passed_by, passed, passed_on_by, passed_on, over_exits, passed_to}
use Rattle.control.specs.Usable.{Fits, MadeBy, Usable}

-- a relation that the operations on letters keep
pub record Respects (R : Letter → Letter → Type 0) : Type 0 where
  pub same : (a : Letter) → R a a
  pub not_l : (a b : Letter) → R a b → R (not_l a) (not_l b)
  pub and_l : (a b x y : Letter) → R a b → R x y → R (and_l a x) (and_l b y)
  pub or_l : (a b x y : Letter) → R a b → R x y → R (or_l a x) (or_l b y)
  pub xor_l : (a b x y : Letter) → R a b → R x y → R (xor_l a x) (xor_l b y)

-- the points of the symbols, by their sums
pub record PointFacts (d : Database) : Type 0 where
  pub ends : (y : ℕ) → IsRow d.symbols y → base d y + width_of d y ≤ all_bits d
  pub inputs_end : (y : ℕ) → IsRow d.symbols y → rank_of d y ≤ 1 → base d y + width_of d y ≤ input_bits d
  pub memory_starts : (y : ℕ) → IsRow d.symbols y → 2 ≤ rank_of d y → input_bits d ≤ base d y
  pub held_ends : (y : ℕ) → IsRow d.symbols y → rank_of d y ≤ 2 → base d y + width_of d y ≤ held_bits d
  pub driven_starts : (y : ℕ) → IsRow d.symbols y → 3 ≤ rank_of d y → held_bits d ≤ base d y
  pub found : (p : ℕ) → p < all_bits d → (y : ℕ) × (b : ℕ) × IsRow d.symbols y × (b < width_of d y) × (p ≡ point_of d y b)
  pub apart : (y z b c : ℕ) → IsRow d.symbols y → IsRow d.symbols z → b < width_of d y → c < width_of d z → point_of d y b ≡ point_of d z c → y ≡ z
  pub inputs_held : input_bits d ≤ held_bits d
  pub held_within : held_bits d ≤ all_bits d

-- the bits of a node are related, and those of a symbol, and the letters of the steps
abbrev pub NodeBy : (Letter → Letter → Type 0) → Database → Letters → Letters → ℕ → Type 0
NodeBy R d v w n = (b : ℕ) → b < (node d n).width → R (node_bit v n b) (node_bit w n b)

abbrev pub SymbolBy : (Letter → Letter → Type 0) → Database → Letters → Letters → ℕ → Type 0
SymbolBy R d v w y = (b : ℕ) → b < width_of d y → R (v (point_of d y b)) (w (point_of d y b))

abbrev pub StepsBy : (Letter → Letter → Type 0) → Database → Letters → Letters → Type 0
StepsBy R d v w = (s : ℕ) → IsRow d.steps s → R (step_letter d v s) (step_letter d w s)

pub cond_related : (R : Letter → Letter → Type 0) (t : Bool) (a b x y : Letter) → (t ≡ true → R a x) → (t ≡ false → R b y) → R (cond t a b) (cond t x y)
cond_related R true a b x y yes_ no_ = yes_ refl
cond_related R false a b x y yes_ no_ = no_ refl

pub joined_related : (R : Letter → Letter → Type 0) (op : Letter → Letter → Letter) (unit : Letter) → R unit unit → ((a b x y : Letter) → R a b → R x y → R (op a x) (op b y)) →
    (f g : ℕ → Letter) (n : ℕ) → ((i : ℕ) → i < n → R (f i) (g i)) → R (joined op unit f n) (joined op unit g n)
unfolding joined
joined_related R op unit u keeps f g zero h = u
joined_related R op unit u keeps f g (suc n) h =
    keeps (joined op unit f n) (joined op unit g n) (f n) (g n) (joined_related R op unit u keeps f g n (λ i low. h i (omega arith))) (h n (omega arith))

chosen : (t : Bool) (n b : ℕ) → 1 ≤ n → (t ≡ false → b < n) → cond t 0 b < n
chosen true n b one h = omega arith
chosen false n b one h = h refl

module _ (R : Letter → Letter → Type 0) (ops : Respects R) (d : Database) (usable : Usable d) (v w : Letters) where
  side_related : (x : NodeRow) (n b : ℕ) → IsRow d.nodes n → Fits d x n → b < x.width → NodeBy R d v w n → R (side d v n b) (side d w n b)
  side_related x n b row fits wide bits =
      let one = (usable.nodes n row).width.0 in
      bits (cond ((node d n).width == 1) 0 b)
      (chosen ((node d n).width == 1) (node d n).width b one (λ e. subst (λ k. b < k) (sym (fits (eqb-false (node d n).width 1 e))) wide))

  pub letter_related : (s : Option NodeSign) (x : NodeRow) (b : ℕ) → b < x.width → MadeBy s d x → (s ≡ Some Name → SymbolBy R d v w x.symbol) → (IsRow d.nodes x.left → NodeBy R d v w x.left) → (IsRow d.nodes x.right → NodeBy R d v w x.right) → R (letter_by s d v x b) (letter_by s d w x b)
  letter_related None x b wide made point left right = ops.same Unknown
  letter_related (Some Name) x b wide made point left right =
      let forward = made.2 in
      let within = made.3 in
      let width = made.4 in
      point refl (x.first + b) (omega arith)
  letter_related (Some Constant) x b wide made point left right = ops.same _
  letter_related (Some Comma) x b wide made point left right =
      let width = made.2 in
      cond_related R (nat_lt b (node d x.left).width) _ _ _ _
      (λ e. left made.0 b (ltb-true b _ e))
      (λ e. let behind = ltb-false b (node d x.left).width e in right made.1 (b - (node d x.left).width) (omega arith))
  letter_related (Some And) x b wide made point left right =
      ops.and_l _ _ _ _ (side_related x x.left b made.0 made.2 wide (left made.0)) (side_related x x.right b made.1 made.3 wide (right made.1))
  letter_related (Some Or) x b wide made point left right =
      ops.or_l _ _ _ _ (side_related x x.left b made.0 made.2 wide (left made.0)) (side_related x x.right b made.1 made.3 wide (right made.1))
  letter_related (Some Xor) x b wide made point left right =
      ops.xor_l _ _ _ _ (side_related x x.left b made.0 made.2 wide (left made.0)) (side_related x x.right b made.1 made.3 wide (right made.1))
  letter_related (Some Not) x b wide made point left right = let width = made.1 in ops.not_l _ _ (left made.0 b (omega arith))
  letter_related (Some AndReduce) x b wide made point left right = joined_related R and_l One (ops.same One) ops.and_l _ _ (node d x.left).width (left made.0)
  letter_related (Some OrReduce) x b wide made point left right = joined_related R or_l Zero (ops.same Zero) ops.or_l _ _ (node d x.left).width (left made.0)
  letter_related (Some XorReduce) x b wide made point left right = joined_related R xor_l Zero (ops.same Zero) ops.xor_l _ _ (node d x.left).width (left made.0)

  guard_related : (s : ℕ) → IsRow d.statements s → StepsBy R d v w → (1 ≤ (statement d s).condition → NodeBy R d v w (statement d s).condition) → R (guard d v s) (guard d w s)
  guard_related s row steps condition =
      let x = usable.statements s row in
      cond_related R ((statement d s).step == 0) _ _ _ _ (λ e. ops.same One)
      (λ e.
      let some = eqb-false (statement d s).step 0 e in
      let by = steps (statement d s).step (omega (arith, some), x.step) in
      cond_related R ((statement d s).condition == 0) _ _ _ _ (λ f. by)
      (λ f.
      let has = eqb-false (statement d s).condition 0 f in
      let there : 1 ≤ (statement d s).condition = omega (arith, has) in
      ops.and_l _ _ _ _ by (condition there 0 (usable.nodes (statement d s).condition (there, x.condition)).width.0)))

  -- The targets of a symbol give it related letters, where the values and the conditions of their statements are related.
  module _ (y b : ℕ) (steps : StepsBy R d v w) (values : (t : ℕ) → IsRow d.targets t → (target d t).symbol ≡ y → NodeBy R d v w (statement d (target d t).statement).value)
      (conditions : (t : ℕ) → IsRow d.targets t → (target d t).symbol ≡ y → 1 ≤ (statement d (target d t).statement).condition → NodeBy R d v w (statement d (target d t).statement).condition) where
    load_related : (t : ℕ) → IsRow d.targets t → names d t y b ≡ true → R (target_guard d v t) (target_guard d w t)
    load_related t row e = guard_related (target d t).statement (usable.targets t row).row steps (conditions t row (eqb-true (target d t).symbol y (and_parts _ _ e).0))

    drive_related : (t : ℕ) → IsRow d.targets t → names d t y b ≡ true → R (guarded d v b t) (guarded d w b t)
    drive_related t row e =
        let x = usable.targets t row in
        let is = and_parts _ _ e in
        let within = and_parts _ _ is.1 in
        let from = leb-true (target d t).first b within.0 in
        let to = leb-true b (target d t).last within.1 in
        ops.and_l _ _ _ _ (load_related t row e) (values t row (eqb-true (target d t).symbol y is.0) (offset d t + (b - (target d t).first)) (omega (arith, x.part)))

    pub driven_related : R (driven d v y b) (driven d w y b)
    unfolding over_targets
    driven_related =
        joined_related R or_l Zero (ops.same Zero) ops.or_l _ _ (length d.targets)
        (λ i low. cond_related R (names d (i + 1) y b) _ _ _ _ (λ e. drive_related (i + 1) (omega arith, omega arith) e) (λ e. ops.same Zero))

    pub loaded_related : R (loaded d v y b) (loaded d w y b)
    unfolding over_targets
    loaded_related =
        joined_related R or_l Zero (ops.same Zero) ops.or_l _ _ (length d.targets)
        (λ i low. cond_related R (names d (i + 1) y b) _ _ _ _ (λ e. load_related (i + 1) (omega arith, omega arith) e) (λ e. ops.same Zero))

  -- the next letters, where the letters of all steps and nodes are related
  module _ (steps : StepsBy R d v w) (nodes : (n : ℕ) → IsRow d.nodes n → NodeBy R d v w n) where
    value_by : (t : ℕ) → IsRow d.targets t → NodeBy R d v w (statement d (target d t).statement).value
    value_by t row = nodes _ (usable.statements (target d t).statement (usable.targets t row).row).value

    condition_by : (t : ℕ) → IsRow d.targets t → 1 ≤ (statement d (target d t).statement).condition → NodeBy R d v w (statement d (target d t).statement).condition
    condition_by t row one = nodes _ (one, (usable.statements (target d t).statement (usable.targets t row).row).condition)

    pub next_bit_related : (y b : ℕ) → R (v (point_of d y b)) (w (point_of d y b)) → R (next_bit d v y b) (next_bit d w y b)
    next_bit_related y b now =
        ops.or_l _ _ _ _ (driven_related y b steps (λ t row e. value_by t row) (λ t row e. condition_by t row))
        (ops.and_l _ _ _ _ now (ops.not_l _ _ (loaded_related y b steps (λ t row e. value_by t row) (λ t row e. condition_by t row))))

    passed_by_related : (k : Option StepKind) (e : ℕ) → IsRow d.steps (exit d e).left → (k ≡ Some Conditions → IsRow d.nodes (step d (exit d e).left).condition × (place d e < (node d (step d (exit d e).left).condition).width)) → R (passed_by k d v e) (passed_by k d w e)
    passed_by_related None e left bit = ops.same Zero
    passed_by_related (Some Next) e left bit = ops.same Zero
    passed_by_related (Some Branch) e left bit = steps _ left
    passed_by_related (Some Conditions) e left bit = ops.and_l _ _ _ _ (steps _ left) (nodes _ (bit refl).0 (place d e) (bit refl).1)
    passed_by_related (Some DeadEnd) e left bit = ops.same Zero

    passed_related : (e : ℕ) → IsRow d.exits e → R (passed d v e) (passed d w e)
    passed_related e row =
        let x = usable.exits e row in
        passed_by_related (step_kind (step d (exit d e).left).kind) e x.left (λ k. ((usable.steps (exit d e).left x.left).conditions k, x.bit k))

    passed_on_by_related : (k : Option StepKind) (s : ℕ) → IsRow d.steps s → (k ≡ Some Conditions → IsRow d.nodes (step d s).condition) → R (passed_on_by k d v s) (passed_on_by k d w s)
    passed_on_by_related None s row condition = ops.same Zero
    passed_on_by_related (Some Next) s row condition = steps s row
    passed_on_by_related (Some Branch) s row condition = ops.same Zero
    passed_on_by_related (Some Conditions) s row condition =
        ops.and_l _ _ _ _ (steps s row) (ops.not_l _ _ (joined_related R or_l Zero (ops.same Zero) ops.or_l _ _ (node d (step d s).condition).width (nodes _ (condition refl))))
    passed_on_by_related (Some DeadEnd) s row condition = ops.same Zero

    passed_on_related : (s : ℕ) → IsRow d.steps s → R (passed_on d v s) (passed_on d w s)
    passed_on_related s row = passed_on_by_related (step_kind (step d s).kind) s row (usable.steps s row).conditions

    pub passed_to_related : (s : ℕ) → IsRow d.steps s → R (passed_to d v s) (passed_to d w s)
    unfolding over_exits
    passed_to_related s row =
        ops.or_l _ _ _ _
        (joined_related R or_l Zero (ops.same Zero) ops.or_l _ _ (length d.exits)
        (λ i low. cond_related R ((exit d (i + 1)).entered == s) _ _ _ _ (λ e. passed_related (i + 1) (omega arith, omega arith)) (λ e. ops.same Zero)))
        (cond_related R (nat_lt 1 s) _ _ _ _ (λ e. let more = ltb-true 1 s e in passed_on_related (s - 1) (omega arith, omega arith)) (λ e. ops.same Zero))
