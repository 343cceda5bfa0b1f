-- What the soundness of a database says of each of its rows. Assumes nothing.
use Rattle.std.proofs.Common.{◌≡◌, ℕ, ◌+◌, ◌<◌, ◌≤◌, length, get_or, sum_by, Option, Some, None, IsSome, true≢false, sym, refl, ap, ◌∙◌, subst, arith}
use Rattle.grammar.specs.declared.draft.Class.{Class}
use Rattle.grammar.specs.declared.draft.Class.TheVariants.{Input, Output, Memory, Bus}
use Rattle.grammar.specs.declared.draft.StatementKind.{StatementKind}
use Rattle.grammar.specs.declared.draft.StatementKind.TheVariants.{Connection, Transfer}
use Rattle.symbols.specs.declared.references.Standing.{Standing}
use Rattle.symbols.specs.declared.references.Standing.TheVariants.{Loaded}
use Rattle.symbols.specs.Items.{most_declared_bits}
use Rattle.rules.specs.Targets.{standing_by}
use Rattle.least.specs.Each.{IsRow}
use Rattle.database.specs.declared.codes.StepKind.TheVariants.{Conditions}
use Rattle.database.specs.declared.rows.StatementRow.{StatementRow}
use Rattle.database.specs.declared.rows.TargetRow.{TargetRow}
use Rattle.database.specs.Codes.{class_of, step_kind, statement_kind}
use Rattle.database.specs.Rows.{Database, no_symbol, no_step, no_statement, no_target, no_exit, symbol, step, statement, target, exit, node}
use Rattle.database.specs.Soundness.{ClassStands, NamesBits, LeavesBy, StatementBy, TargetBy, HasExits, Reads, Sound}
use Rattle.control.specs.Laws.{SoundIsUsable}
use Rattle.control.specs.Points.{rank, rank_of, all_bits, target_bits, offset, place}
use Rattle.control.specs.Usable.{UsableSymbol, UsableStep, UsableStatement, UsableTarget, UsableExit, Usable}
use Rattle.settling.proofs.UsableRows.{each_row, row_is, row_part, sum_rows, counted_here}
use Rattle.settling.proofs.UsableNodes.{usable_node}
use Rattle.settling.proofs.UsableSteps.{StatementStands, Stand, stand, of_step, counted_row}
use Rattle.settling.proofs.UsableTargets.{TargetStands, TargetsStand, targets_stand, bits_of_target, wide_row}

-- each class has its place
ranked : (c : Option Class) → IsSome c → (1 ≤ rank c) × (rank c ≤ 4)
ranked None h = absurd (true≢false (sym h))
ranked (Some Input) h = (omega arith, omega arith)
ranked (Some Output) h = (omega arith, omega arith)
ranked (Some Memory) h = (omega arith, omega arith)
ranked (Some Bus) h = (omega arith, omega arith)

bus_ranked : (c : Option Class) → rank c ≡ 3 → c ≡ Some Bus
bus_ranked None h = absurd (omega arith)
bus_ranked (Some Input) h = absurd (omega arith)
bus_ranked (Some Output) h = absurd (omega arith)
bus_ranked (Some Memory) h = absurd (omega arith)
bus_ranked (Some Bus) h = refl

-- a target names bits of its symbol
target_names : (k : Option StatementKind) (d : Database) (t : TargetRow) → TargetBy k d t → (s : Standing) × NamesBits d s t.symbol t.first t.last
target_names None d t h = absurd h
target_names (Some k) d t h = (standing_by k, h)

-- what drives a bus has no condition
no_bus_loaded : (c : Option Class) → rank c ≡ 3 → ClassStands Loaded c → ⊥
no_bus_loaded c e h = true≢false (sym (subst (ClassStands Loaded) (bus_ranked c e) h))

unconditional : (k : Option StatementKind) (d : Database) (s : StatementRow) (t : TargetRow) → StatementBy k d s → TargetBy k d t → rank_of d t.symbol ≡ 3 → s.condition ≡ 0
unconditional None d s t h g e = absurd h
unconditional (Some Connection) d s t h g e = h
unconditional (Some Transfer) d s t h g e = absurd (no_bus_loaded (class_of (symbol d t.symbol).class) e g.stands)

module _ (bytes : ℕ) (d : Database) (s : Sound bytes d) where
  laid : Stand d 1 d.steps d.statements d.exits 0 (length d.nodes)
  laid = stand d 1 d.steps d.statements d.exits 0 (length d.nodes) s.laid

  sides : TargetsStand d 1 d.statements d.targets
  sides = targets_stand d 1 d.statements d.targets s.sides

  usable_symbol : (y : ℕ) → IsRow d.symbols y → UsableSymbol d y
  usable_symbol y h =
      let x = s.symbols y h in
      let r = ranked (class_of (symbol d y).class) x.class in
      record { first_class = r.0; last_class = r.1; width = x.width }

  usable_step : (n : ℕ) → IsRow d.steps n → UsableStep d n
  usable_step n h =
      let x = s.steps n h in
      record {
        conditions = λ e. (subst (λ k. LeavesBy k (step d n).condition) e x.leaves, each_row (λ x. x.condition ≤ length d.nodes) no_step d.steps laid.conditions n h);
        mark = x.mark;
      }

  usable_statement : (n : ℕ) → IsRow d.statements n → UsableStatement d n
  usable_statement n h =
      let x = each_row (StatementStands (length d.nodes)) no_statement d.statements laid.statements n h in
      record { step = (s.statements n h).step; condition = x.0; value = (x.1, x.2) }

  -- the part of the value that a target takes
  part : (t : ℕ) → IsRow d.targets t → IsRow d.statements (target d t).statement
      → offset d t + target_bits d t ≤ (node d (statement d (target d t).statement).value).width
  unfolding offset
  part t h there =
      let n : ℕ = (target d t).statement in
      let own : bits_of_target n (target d t) ≡ target_bits d t = counted_here n n (target_bits d t) refl in
      let most : offset d t + bits_of_target n (target d t) ≤ sum_by (bits_of_target n) d.targets = row_part no_target (bits_of_target n) d.targets t h in
      let wide : sum_by (bits_of_target n) d.targets ≡ (node d (statement d n).value).width = wide_row d sides n there in
      omega (arith, own, most, wide)

  usable_target : (t : ℕ) → IsRow d.targets t → UsableTarget d t
  usable_target t h =
      let n : ℕ = (target d t).statement in
      let x : TargetStands d 1 d.statements (target d t) = each_row (TargetStands d 1 d.statements) no_target d.targets sides.each t h in
      let least = x.there in
      let numbered : n ≡ x.place + 1 = x.statement ∙ omega arith in
      let there : IsRow d.statements n = (omega arith, omega arith) in
      let own : statement d n ≡ get_or d.statements x.place no_statement = ap (statement d) numbered ∙ row_is no_statement d.statements x.place in
      let names = target_names (statement_kind (statement d n).kind) d (target d t) (s.targets t h) in
      record {
        row = there;
        names = (names.1).there;
        forward = (names.1).forward;
        within = (names.1).within;
        part = part t h there;
        unconditional = unconditional (statement_kind (statement d n).kind) d (statement d n) (target d t) (s.statements n there).kind (s.targets t h);
        order = λ e z r b. x.order (bus_ranked (class_of (symbol d (target d t).symbol).class) e) z (subst (λ y. Reads d y.value z) own r) (bus_ranked (class_of (symbol d z).class) b);
      }

  -- the bit of the conditions that an exit waits for
  bit : (e : ℕ) → IsRow d.exits e → IsRow d.steps (exit d e).left → step_kind (step d (exit d e).left).kind ≡ Some Conditions
      → place d e < (node d (step d (exit d e).left).condition).width
  unfolding place
  bit e h there conditions =
      let n : ℕ = (exit d e).left in
      let own : of_step n (exit d e) ≡ 1 = counted_here n n 1 refl in
      let most : place d e + of_step n (exit d e) ≤ sum_by (of_step n) d.exits = row_part no_exit (of_step n) d.exits e h in
      let count : sum_by (of_step n) d.exits ≡ (node d (step d n).condition).width =
      subst (λ k. HasExits k d (step d n) (sum_by (of_step n) d.exits)) conditions (counted_row d laid n there) in
      omega (arith, own, most, count)

  usable_exit : (e : ℕ) → IsRow d.exits e → UsableExit d e
  usable_exit e h =
      let x = s.exits e h in
      record { left = x.left; entered = x.entered; bit = bit e h x.left }

  few_bits : all_bits d ≤ most_declared_bits
  unfolding all_bits
  few_bits = subst (λ n. n ≤ most_declared_bits) (sym (sum_rows no_symbol (λ x. x.width) d.symbols)) s.bits

  usable : Usable d
  usable = record {
    few_symbols = s.few.symbols;
    few_steps = s.few.steps;
    few_statements = s.few.statements;
    few_targets = s.few.targets;
    few_exits = s.few.exits;
    few_nodes = s.few.nodes;
    few_bits = few_bits;
    some_step = s.some_step;
    symbols = usable_symbol;
    steps = usable_step;
    statements = usable_statement;
    targets = usable_target;
    exits = usable_exit;
    nodes = usable_node d s.nodes laid.nodes;
  }

-- what is said of a sound database as a whole holds for each of its rows
pub sound_is_usable : SoundIsUsable
sound_is_usable = usable
