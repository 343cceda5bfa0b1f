-- What private functions promise. Assumes nothing.
use Rattle.std.specs.Prelude.{◌≡◌, ◌↔◌, ℕ, ◌+◌, ◌<◌, ◌≤◌, List, [], ◌∷◌, ◌++◌, length, Option, Some, None, All}
use Rattle.least.specs.Each.{IsRow}
use Rattle.database.specs.declared.codes.NodeSign.TheVariants.{Name}
use Rattle.database.specs.declared.rows.NodeRow.{NodeRow}
use Rattle.database.specs.declared.rows.StepRow.{StepRow}
use Rattle.database.specs.declared.rows.TargetRow.{TargetRow}
use Rattle.database.specs.Codes.{sign_of}
use Rattle.database.specs.Rows.{Database, node}
use Rattle.database.specs.Expressions.{Shape, shape, shape_at, Expression, Expressions}
use Rattle.database.specs.Soundness.{StepsLaid, IsBus, Reads}
use Rattle.inspect_layout.specs.declared.expressions.Last.{Last}
use Rattle.inspect_layout.specs.declared.expressions.Last.TheVariants.{Leaf, Unary, Binary}
use Rattle.inspect_layout.specs.declared.steps.Behind.{Behind}

-- what a row of that shape is as the last of an expression; none where it is the last of no expression
abbrev pub LastOfShape : Shape → ℕ → Option Last → Type 0
LastOfShape s root None = (sh : List Shape) (before : ℕ) → shape_at sh root ≡ s → Expression sh before root → ⊥
LastOfShape s root (Some Leaf) = (1 ≤ root) × (s ≡ shape 0 0 0)
LastOfShape s root (Some Unary) = (end : ℕ) × (root ≡ end + 1) × (s ≡ shape 1 end 0)
LastOfShape s root (Some (Binary left)) = (end : ℕ) × (root ≡ end + 1) × (left < end) × (s ≡ shape 2 left end)

-- the first of some rows, if there is one, belongs to another number
abbrev pub Ends : {A : Type 0} → (A → ℕ) → ℕ → List A → Type 0
Ends owner n [] = Unit {0}
Ends owner n (x ∷ xs) = owner x ≡ n → ⊥

-- the rows in front that belong to a number, as many as there are, and the others
pub record Front {A : Type 0} (owner : A → ℕ) (n : ℕ) (rows own others : List A) : Type 0 where
  pub whole : rows ≡ own ++ others
  pub belong : All (λ x. owner x ≡ n) own
  pub ends : Ends owner n others

-- where the expressions with these roots, one behind the other, end; none where the rows behind `before` do not begin with them
abbrev pub EndsAt : List Shape → ℕ → List ℕ → Option ℕ → Type 0
EndsAt shapes before roots None = (end : ℕ) → Expressions shapes before roots end → ⊥
EndsAt shapes before roots (Some end) = Expressions shapes before roots end

-- the steps from that number on have all that is there
abbrev pub LaidFrom : Database → ℕ → List StepRow → Behind → Type 0
LaidFrom d n xs here = StepsLaid d n xs here.statements.now here.exits.now here.before (length d.nodes)

-- What stands behind a step: that is laid in order exactly where all is, whatever steps follow. None where nothing is.
abbrev pub Passed : Database → ℕ → StepRow → Behind → Option Behind → Type 0
Passed d n x here None = (xs : List StepRow) → LaidFrom d n (x ∷ xs) here → ⊥
Passed d n x here (Some behind) = (xs : List StepRow) → LaidFrom d n (x ∷ xs) here ↔ LaidFrom d (n + 1) xs behind

-- the operands of each node stand before it
pub record OperandsFirst (d : Database) : Type 0 where
  pub left : (n : ℕ) → IsRow d.nodes n → (node d n).left < n
  pub right : (n : ℕ) → IsRow d.nodes n → (node d n).right < n

-- a node that is a name names no bus from that number on
abbrev pub NamesBelow : Database → NodeRow → ℕ → Type 0
NamesBelow d x bound = sign_of x.sign ≡ Some Name → IsBus d x.symbol → x.symbol < bound

-- the node and those below it read no bus from that number on
abbrev pub ReadsBelow : Database → ℕ → ℕ → Type 0
ReadsBelow d n bound = (y : ℕ) → Reads d n y → IsBus d y → y < bound

-- where a target is a bus, that value reads only buses declared before it
abbrev pub InOrder : Database → ℕ → TargetRow → Type 0
InOrder d value t = IsBus d t.symbol → ReadsBelow d value t.symbol
