-- The letter of each bit of a node, from the letters of points and of the nodes below it. Assumes nothing.
use Rattle.std.specs.Prelude.{ℕ, zero, suc, ◌+◌, ◌-◌, ◌/◌, ◌%◌, ◌^◌, cond, nat_lt, ◌==◌, List, map, get_or, Option, Some, None}
use Rattle.level.specs.declared.letter.Letter.{Letter}
use Rattle.level.specs.declared.letter.Letter.TheVariants.{Zero, One, Unknown}
use Rattle.level.specs.Letters.{not_l, and_l, or_l, xor_l, bit_letter}
use Rattle.database.specs.declared.codes.NodeSign.{NodeSign}
use Rattle.database.specs.declared.codes.NodeSign.TheVariants.{Name, Constant, Comma, And, Or, Xor, Not, AndReduce, OrReduce, XorReduce}
use Rattle.database.specs.declared.rows.NodeRow.{NodeRow}
use Rattle.database.specs.Codes.{sign_of}
use Rattle.database.specs.Rows.{Database, node}
use Rattle.control.specs.Points.{point_of, bit_row}

-- A letter for each row of a table. The letters of points and of bits of nodes are numbered by the rows of the working table.
abbrev pub Letters : Type 0
Letters = ℕ → Letter

-- the letters of a table of levels, in a lane
abbrev pub column : {X : Type 0} → (X → ℕ → Letter) → ℕ → List X → List Letter
column letters k xs = map (λ x. letters x k) xs

-- the same, row by row
abbrev pub seen : {X : Type 0} → (X → ℕ → Letter) → ℕ → List X → Letters
seen letters k xs r = get_or (column letters k xs) r Unknown

-- f 0, .. f (n - 1), joined
unfoldable pub joined : (Letter → Letter → Letter) → Letter → (ℕ → Letter) → ℕ → Letter
joined op unit f zero = unit
joined op unit f (suc n) = op (joined op unit f n) (f n)

-- bit b of a node
abbrev pub node_bit : Letters → ℕ → ℕ → Letter
node_bit w n b = w (bit_row n b)

-- bit b of an operand of & + @: one bit is repeated
abbrev pub side : Database → Letters → ℕ → ℕ → Letter
side d w n b = node_bit w n (cond ((node d n).width == 1) 0 b)

-- all bits of an operand, joined
abbrev pub reduced : (Letter → Letter → Letter) → Letter → Database → Letters → ℕ → Letter
reduced op unit d w n = joined op unit (node_bit w n) (node d n).width

-- what the sign of a node makes of its operands; the right bit of a constant is the least
abbrev pub letter_by : Option NodeSign → Database → Letters → NodeRow → ℕ → Letter
letter_by None d w x b = Unknown
letter_by (Some Name) d w x b = w (point_of d x.symbol (x.first + b))
letter_by (Some Constant) d w x b = bit_letter (x.value / 2 ^ (x.width - 1 - b) % 2)
letter_by (Some Comma) d w x b = cond (nat_lt b (node d x.left).width) (node_bit w x.left b) (node_bit w x.right (b - (node d x.left).width))
letter_by (Some And) d w x b = and_l (side d w x.left b) (side d w x.right b)
letter_by (Some Or) d w x b = or_l (side d w x.left b) (side d w x.right b)
letter_by (Some Xor) d w x b = xor_l (side d w x.left b) (side d w x.right b)
letter_by (Some Not) d w x b = not_l (node_bit w x.left b)
letter_by (Some AndReduce) d w x b = reduced and_l One d w x.left
letter_by (Some OrReduce) d w x b = reduced or_l Zero d w x.left
letter_by (Some XorReduce) d w x b = reduced xor_l Zero d w x.left

abbrev pub node_letter : Database → Letters → ℕ → ℕ → Letter
node_letter d w n b = letter_by (sign_of (node d n).sign) d w (node d n) b
