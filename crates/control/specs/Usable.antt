-- What follows of the soundness of a database for one row at a time, on which calls rely. Assumes nothing.
use Rattle.std.specs.Prelude.{◌≡◌, ℕ, ◌+◌, ◌-◌, ◌^◌, ◌<◌, ◌≤◌, length, Option, Some, None}
use Rattle.std.proofs.Props.{props}
use Rattle.least.specs.Each.{IsRow}
use Rattle.rules.specs.Targets.{most_targets}
use Rattle.rules.specs.Nodes.{most_nodes}
use Rattle.rules.specs.Steps.{most_steps, most_statements, most_exits}
use Rattle.symbols.specs.Items.{most_symbols, most_declared_bits}
use Rattle.database.specs.declared.codes.StepKind.TheVariants.{Conditions}
use Rattle.database.specs.declared.codes.NodeSign.{NodeSign}
use Rattle.database.specs.declared.codes.NodeSign.TheVariants.{Name, Constant, Comma, And, Or, Xor, Not, AndReduce, OrReduce, XorReduce}
use Rattle.database.specs.declared.rows.NodeRow.{NodeRow}
use Rattle.database.specs.Codes.{step_kind, sign_of}
use Rattle.database.specs.Rows.{Database, step, statement, target, exit, node}
use Rattle.database.specs.Soundness.{Reads, IsWidth}
use Rattle.control.specs.Points.{rank_of, width_of, all_bits, target_bits, offset, place}

-- an operand of & + @ is as wide as the node, or has one bit, which is repeated
abbrev pub Fits : Database → NodeRow → ℕ → Type 0
Fits d x n = ¬ ((node d n).width ≡ 1) → (node d n).width ≡ x.width

abbrev pub Joined : Database → NodeRow → Type 0
Joined d x = IsRow d.nodes x.left × IsRow d.nodes x.right × Fits d x x.left × Fits d x x.right

-- what a node of each sign is made of
abbrev pub MadeBy : Option NodeSign → Database → NodeRow → Type 0
MadeBy None d x = ⊥
MadeBy (Some Name) d x = IsRow d.symbols x.symbol × (rank_of d x.symbol ≤ 3) × (x.first ≤ x.last) × (x.last < width_of d x.symbol) × (x.width ≡ x.last - x.first + 1)
MadeBy (Some Constant) d x = x.value < 2 ^ x.width
MadeBy (Some Comma) d x = IsRow d.nodes x.left × IsRow d.nodes x.right × (x.width ≡ (node d x.left).width + (node d x.right).width)
MadeBy (Some And) d x = Joined d x
MadeBy (Some Or) d x = Joined d x
MadeBy (Some Xor) d x = Joined d x
MadeBy (Some Not) d x = IsRow d.nodes x.left × (x.width ≡ (node d x.left).width)
MadeBy (Some AndReduce) d x = IsRow d.nodes x.left × (x.width ≡ 1)
MadeBy (Some OrReduce) d x = IsRow d.nodes x.left × (x.width ≡ 1)
MadeBy (Some XorReduce) d x = IsRow d.nodes x.left × (x.width ≡ 1)

-- a node stands behind its operands
pub record UsableNode (d : Database) (n : ℕ) : Type 0 where
  pub width : IsWidth (node d n).width
  pub left : (node d n).left < n
  pub right : (node d n).right < n
  pub made : MadeBy (sign_of (node d n).sign) d (node d n)

pub record UsableSymbol (d : Database) (y : ℕ) : Type 0 where
  pub first_class : 1 ≤ rank_of d y
  pub last_class : rank_of d y ≤ 4
  pub width : IsWidth (width_of d y)

pub record UsableStatement (d : Database) (s : ℕ) : Type 0 where
  pub step : (statement d s).step ≤ length d.steps
  pub condition : (statement d s).condition ≤ length d.nodes
  pub value : IsRow d.nodes (statement d s).value

-- a target names bits of its symbol, and takes as many of the value; what drives a bus reads only buses declared before it
pub record UsableTarget (d : Database) (t : ℕ) : Type 0 where
  pub row : IsRow d.statements (target d t).statement
  pub names : IsRow d.symbols (target d t).symbol
  pub forward : (target d t).first ≤ (target d t).last
  pub within : (target d t).last < width_of d (target d t).symbol
  pub part : offset d t + target_bits d t ≤ (node d (statement d (target d t).statement).value).width
  pub unconditional : rank_of d (target d t).symbol ≡ 3 → (statement d (target d t).statement).condition ≡ 0
  pub order : rank_of d (target d t).symbol ≡ 3 → (z : ℕ) → Reads d (statement d (target d t).statement).value z → rank_of d z ≡ 3 → z < (target d t).symbol

pub record UsableStep (d : Database) (s : ℕ) : Type 0 where
  pub conditions : step_kind (step d s).kind ≡ Some Conditions → IsRow d.nodes (step d s).condition
  pub mark : (step d s).reset ≤ 1

pub record UsableExit (d : Database) (e : ℕ) : Type 0 where
  pub left : IsRow d.steps (exit d e).left
  pub entered : IsRow d.steps (exit d e).entered
  pub bit : step_kind (step d (exit d e).left).kind ≡ Some Conditions → place d e < (node d (step d (exit d e).left).condition).width

pub record Usable (d : Database) : Type 0 where
  pub few_symbols : length d.symbols ≤ most_symbols
  pub few_steps : length d.steps ≤ most_steps
  pub few_statements : length d.statements ≤ most_statements
  pub few_targets : length d.targets ≤ most_targets
  pub few_exits : length d.exits ≤ most_exits
  pub few_nodes : length d.nodes ≤ most_nodes
  pub few_bits : all_bits d ≤ most_declared_bits
  pub some_step : 1 ≤ length d.steps
  pub symbols : (y : ℕ) → IsRow d.symbols y → UsableSymbol d y
  pub steps : (s : ℕ) → IsRow d.steps s → UsableStep d s
  pub statements : (s : ℕ) → IsRow d.statements s → UsableStatement d s
  pub targets : (t : ℕ) → IsRow d.targets t → UsableTarget d t
  pub exits : (e : ℕ) → IsRow d.exits e → UsableExit d e
  pub nodes : (n : ℕ) → IsRow d.nodes n → UsableNode d n

-- what a node is made of is said in one way
pub made_prop : (sign : Option NodeSign) (d : Database) (x : NodeRow) → IsProp (MadeBy sign d x)
made_prop None d x = Prim.hlevel props
made_prop (Some Name) d x = Prim.hlevel props
made_prop (Some Constant) d x = Prim.hlevel props
made_prop (Some Comma) d x = Prim.hlevel props
made_prop (Some And) d x = Prim.hlevel props
made_prop (Some Or) d x = Prim.hlevel props
made_prop (Some Xor) d x = Prim.hlevel props
made_prop (Some Not) d x = Prim.hlevel props
made_prop (Some AndReduce) d x = Prim.hlevel props
made_prop (Some OrReduce) d x = Prim.hlevel props
made_prop (Some XorReduce) d x = Prim.hlevel props
