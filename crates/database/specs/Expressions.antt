-- Expressions as rows of nodes: each node used once and after its operands, left before right. Assumes nothing.
use Rattle.std.specs.Prelude.{◌≡◌, ℕ, ◌+◌, List, [], ◌∷◌, map, Option, Some, None}
use Rattle.least.specs.Each.{row_at}
use Rattle.database.specs.declared.codes.NodeSign.{NodeSign}
use Rattle.database.specs.declared.codes.NodeSign.TheVariants.{Name, Constant, Comma, And, Or, Xor, Not, AndReduce, OrReduce, XorReduce}
use Rattle.database.specs.declared.rows.NodeRow.{NodeRow}
use Rattle.database.specs.Codes.{sign_of}
use Rattle.database.specs.Rows.{Database}

-- how many operands a sign takes
abbrev pub operands_of : NodeSign → ℕ
operands_of Name = 0
operands_of Constant = 0
operands_of Comma = 2
operands_of And = 2
operands_of Or = 2
operands_of Xor = 2
operands_of Not = 1
operands_of AndReduce = 1
operands_of OrReduce = 1
operands_of XorReduce = 1

-- how many operands a node takes, if it is one, and the rows of these; a column that is not used is 0
pub record Shape : Type 0 where
  pub operands : Option ℕ
  pub left : ℕ
  pub right : ℕ

abbrev pub shape : ℕ → ℕ → ℕ → Shape
shape n left right = record { operands = Some n; left = left; right = right }

abbrev pub no_shape : Shape
no_shape = record { operands = None; left = 0; right = 0 }

abbrev pub shape_at : List Shape → ℕ → Shape
shape_at shapes n = row_at no_shape shapes n

-- The rows behind `before`, up to `root`, are those of one expression, whose root stands last: a leaf; or a node behind its only
-- operand; or a node behind its left operand and then its right one.
pub data Expression (shapes : List Shape) : ℕ → ℕ → Type 0 where
  leaf : {before root : ℕ} → root ≡ before + 1 → shape_at shapes root ≡ shape 0 0 0 → Expression shapes before root
  unary : {before root : ℕ} (a : ℕ) → root ≡ a + 1 → shape_at shapes root ≡ shape 1 a 0 → Expression shapes before a → Expression shapes before root
  binary : {before root : ℕ} (a b : ℕ) → root ≡ b + 1 → shape_at shapes root ≡ shape 2 a b → Expression shapes before a → Expression shapes a b → Expression shapes before root

-- the rows behind `before`, up to `end`, are those of expressions with these roots, one behind the other
abbrev pub Expressions : List Shape → ℕ → List ℕ → ℕ → Type 0
Expressions shapes before [] end = before ≡ end
Expressions shapes before (root ∷ roots) end = Expression shapes before root × Expressions shapes root roots end

-- the shape of a row
abbrev pub shape_by : Option NodeSign → NodeRow → Shape
shape_by None x = no_shape
shape_by (Some sign) x = shape (operands_of sign) x.left x.right

abbrev pub row_shape : NodeRow → Shape
row_shape x = shape_by (sign_of x.sign) x

abbrev pub shapes : Database → List Shape
shapes d = map row_shape d.nodes
