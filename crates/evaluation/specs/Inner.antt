-- How the working table is filled: rows that have the letters of a settled w keep them, and more rows get theirs. Assumes nothing.
use Rattle.std.specs.Prelude.{◌≡◌, ℕ, ◌-◌, ◌<◌, ◌≤◌, Bool, true, false, cond, ◌&&◌, nat_lt, nat_le, ◌==◌, List, length, get_or, Some}
use Rattle.level.specs.declared.letter.Letter.{Letter}
use Rattle.level.specs.declared.letter.Letter.TheVariants.{Zero}
use Rattle.level.specs.Letters.{or_l}
use Rattle.level.specs.declared.Level.{Ghosts}
use Rattle.least.specs.Each.{IsRow}
use Rattle.database.specs.declared.codes.NodeSign.TheVariants.{Name}
use Rattle.database.specs.Codes.{sign_of}
use Rattle.database.specs.Rows.{Database, statement, target, node}
use Rattle.database.specs.Soundness.{Reads}
use Rattle.control.specs.Points.{rank_of, width_of, point_of, held_bits}
use Rattle.control.specs.Letters.{Letters, node_bit}
use Rattle.control.specs.Rules.{step_letter, Settled}
use Rattle.control.specs.Levels.{lane, InEachLane}

-- the bits of a node, those of a symbol, and the steps have their letters
abbrev pub NodeRight : Database → Letters → Letters → ℕ → Type 0
NodeRight d w xs n = (b : ℕ) → b < (node d n).width → node_bit xs n b ≡ node_bit w n b

abbrev pub SymbolRight : Database → Letters → Letters → ℕ → Type 0
SymbolRight d w xs y = (b : ℕ) → b < width_of d y → xs (point_of d y b) ≡ w (point_of d y b)

abbrev pub StepLevelsRight : Database → Letters → Letters → Type 0
StepLevelsRight d w xs = (s : ℕ) → IsRow d.steps s → step_letter d xs s ≡ step_letter d w s

-- and the first n nodes, and the outputs among the first n symbols
abbrev pub NodesRight : Database → Letters → Letters → ℕ → Type 0
NodesRight d w xs n = (j : ℕ) → 1 ≤ j → j ≤ n → NodeRight d w xs j

abbrev pub OutputsRight : Database → Letters → Letters → ℕ → Type 0
OutputsRight d w xs n = (y : ℕ) → 1 ≤ y → y ≤ n → rank_of d y ≡ 4 → SymbolRight d w xs y

-- all that is held has its letters
pub record HeldRight (d : Database) (w xs : Letters) : Type 0 where
  pub bits : (p : ℕ) → p < held_bits d → xs p ≡ w p
  pub steps : StepLevelsRight d w xs

-- what a node is made of has its letters
pub record Fed (d : Database) (w xs : Letters) (n : ℕ) : Type 0 where
  pub symbol : sign_of (node d n).sign ≡ Some Name → SymbolRight d w xs (node d n).symbol
  pub left : 1 ≤ (node d n).left → NodeRight d w xs (node d n).left
  pub right : 1 ≤ (node d n).right → NodeRight d w xs (node d n).right

-- the symbols that a node or one below it names have their letters
abbrev pub Supplied : Database → Letters → Letters → ℕ → Type 0
Supplied d w xs n = (y : ℕ) → Reads d n y → SymbolRight d w xs y

-- the nodes that are marked have their letters
abbrev pub MarkedRight : Database → List Bool → Letters → Letters → Type 0
MarkedRight d filled w xs = (n : ℕ) → IsRow d.nodes n → get_or filled (n - 1) false ≡ true → NodeRight d w xs n

-- what is held has its letters, and so have the buses declared before y
pub record Reached (d : Database) (w xs : Letters) (y : ℕ) : Type 0 where
  pub steps : StepLevelsRight d w xs
  pub symbols : (z : ℕ) → IsRow d.symbols z → (3 ≤ rank_of d z → (rank_of d z ≡ 3) × (z < y)) → SymbolRight d w xs z

-- the condition and the value of a target's statement have their letters
pub record Given (d : Database) (w xs : Letters) (t : ℕ) : Type 0 where
  pub condition : 1 ≤ (statement d (target d t).statement).condition → NodeRight d w xs (statement d (target d t).statement).condition
  pub value : NodeRight d w xs (statement d (target d t).statement).value

-- so have those of the targets that name y, of the first n
abbrev pub Sourced : Database → Letters → Letters → ℕ → ℕ → Type 0
Sourced d w xs y n = (t : ℕ) → 1 ≤ t → t ≤ n → (target d t).symbol ≡ y → Given d w xs t

-- how many targets stand before that one; before 0, which is none, all
abbrev pub targets_before : Database → ℕ → ℕ
targets_before d t = cond (t == 0) (length d.targets) (t - 1)

-- a target that names y, or 0
pub record AtTarget (d : Database) (y n : ℕ) : Type 0 where
  pub there : n ≤ length d.targets
  pub names : 1 ≤ n → (target d n).symbol ≡ y

-- Rows that have the letters of w keep them, and the new rows have what is said.
pub record NowRight (w old new : Letters) (Has : Letters → Letters → Type 0) : Type 0 where
  pub keeps : (r : ℕ) → old r ≡ w r → new r ≡ w r
  pub has : Has w new

-- In each lane, for every w that is settled: from rows that have the one, rows are filled that have the other.
abbrev pub Fills : {X : Type 0} → Ghosts X → Database → List X → List X → (Letters → Letters → Type 0) → (Letters → Letters → Type 0) → Type 0
Fills G d old new From Has =
    InEachLane G (λ k. (h w : Letters) → Settled d h w → From w (lane G old k) → NowRight w (lane G old k) (lane G new k) Has)

-- To each bit from `first` to before `next` what f says is joined, in each lane; other bits are as they were.
abbrev pub TargetJoined : {X : Type 0} → Ghosts X → List X → List X → ℕ → ℕ → (ℕ → ℕ → Letter) → Type 0
TargetJoined G old new first next f =
    InEachLane G (λ k. (b : ℕ) → b < 32 → lane G new k b ≡ or_l (lane G old k b) (cond (nat_le first b && nat_lt b next) (f k b) Zero))
