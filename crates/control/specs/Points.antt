-- The points of a database, which are the bits of its symbols and its steps, and the rows in which tables have them. Assumes nothing.
use Rattle.std.specs.Prelude.{ℕ, zero, suc, ◌+◌, ◌-◌, ◌*◌, Bool, cond, ◌&&◌, ◌||◌, nat_lt, nat_le, ◌==◌, List, [], ◌∷◌, ◌++◌, map, length, Option, Some, None, filter, flat_map}
use Rattle.grammar.specs.declared.draft.Class.{Class}
use Rattle.grammar.specs.declared.draft.Class.TheVariants.{Input, Output, Memory, Bus}
use Rattle.least.specs.Each.{numbered}
use Rattle.database.specs.Codes.{class_of}
use Rattle.database.specs.Rows.{Database, symbol, target, exit}

-- the place of a class in the order of points
abbrev pub rank : Option Class → ℕ
rank None = 0
rank (Some Input) = 1
rank (Some Memory) = 2
rank (Some Bus) = 3
rank (Some Output) = 4

abbrev pub rank_of : Database → ℕ → ℕ
rank_of d y = rank (class_of (symbol d y).class)

abbrev pub width_of : Database → ℕ → ℕ
width_of d y = (symbol d y).width

-- a point: a bit of a symbol, or a step
pub data Point : Type 0 where
  bit_of : ℕ → ℕ → Point
  step_of : ℕ → Point

-- the numbers of the rows of a list
abbrev pub row_numbers : {A : Type 0} → List A → List ℕ
row_numbers xs = numbered (λ n x. n) xs

-- 0, .. n - 1
abbrev pub below : ℕ → List ℕ
below zero = []
below (suc n) = below n ++ n ∷ []

-- the symbols of a class, as declared
abbrev pub symbols_of : Database → Class → List ℕ
symbols_of d c = filter (λ y. rank_of d y == rank (Some c)) (row_numbers d.symbols)

abbrev pub bits_of : Database → List ℕ → List Point
bits_of d ys = flat_map (λ y. map (bit_of y) (below (width_of d y))) ys

abbrev pub step_points : Database → List Point
step_points d = map step_of (row_numbers d.steps)

-- The points: the bits of the inputs, the memory, the buses and the outputs, as declared within each class, then the steps.
abbrev pub points : Database → List Point
points d = bits_of d (symbols_of d Input ++ symbols_of d Memory ++ symbols_of d Bus ++ symbols_of d Output) ++ step_points d

-- The points that are held from clock to clock: inputs, memory, steps.
abbrev pub held_points : Database → List Point
held_points d = bits_of d (symbols_of d Input ++ symbols_of d Memory) ++ step_points d

-- The same as numbers, by counting what stands before: the laws `PointLaws` say that these are the places in the lists above.

-- f 0 + .. + f (n - 1)
unfoldable pub sum_up_to : (ℕ → ℕ) → ℕ → ℕ
sum_up_to f zero = 0
sum_up_to f (suc n) = sum_up_to f n + f n

-- the bits of the symbols that a test picks
abbrev pub bits_where : Database → (ℕ → Bool) → ℕ
bits_where d f = sum_up_to (λ i. cond (f (i + 1)) (width_of d (i + 1)) 0) (length d.symbols)

-- a symbol stands before another: by class, then as declared
abbrev pub ahead : Database → ℕ → ℕ → Bool
ahead d z y = nat_lt (rank_of d z) (rank_of d y) || (rank_of d z == rank_of d y && nat_lt z y)

-- the first point of a symbol
unfoldable pub base : Database → ℕ → ℕ
base d y = bits_where d (λ z. ahead d z y)

-- the bits of all symbols, of the inputs, and of inputs and memory
unfoldable pub all_bits : Database → ℕ
all_bits d = sum_up_to (λ i. width_of d (i + 1)) (length d.symbols)

unfoldable pub input_bits : Database → ℕ
input_bits d = bits_where d (λ z. nat_le (rank_of d z) 1)

unfoldable pub held_bits : Database → ℕ
held_bits d = bits_where d (λ z. nat_le (rank_of d z) 2)

-- the bits of the memory
abbrev pub register_bits : Database → ℕ
register_bits d = held_bits d - input_bits d

-- the point of a symbol's bit, and of a step
abbrev pub point_of : Database → ℕ → ℕ → ℕ
point_of d y b = base d y + b

abbrev pub step_point : Database → ℕ → ℕ
step_point d s = all_bits d + (s - 1)

abbrev pub point_count : Database → ℕ
point_count d = all_bits d + length d.steps

-- where a step is held: behind the bits of inputs and memory, each of which is held in the row of its point
abbrev pub held_step : Database → ℕ → ℕ
held_step d s = held_bits d + (s - 1)

abbrev pub held_count : Database → ℕ
held_count d = held_bits d + length d.steps

-- The working table has a row for each of 1,088 points, then 32 for each node.
abbrev pub most_points : ℕ
most_points = 1088

abbrev pub working_rows : ℕ
working_rows = 17472

-- the row of a node's bit
abbrev pub bit_row : ℕ → ℕ → ℕ
bit_row n b = most_points + 32 * (n - 1) + b

-- how many bits a target names
abbrev pub target_bits : Database → ℕ → ℕ
target_bits d t = (target d t).last - (target d t).first + 1

-- The bit of its statement's value that a target begins with: the targets of that statement before it take those before.
unfoldable pub offset : Database → ℕ → ℕ
offset d t = sum_up_to (λ i. cond ((target d (i + 1)).statement == (target d t).statement) (target_bits d (i + 1)) 0) (t - 1)

-- The bit of its step's condition that an exit waits for: so many exits of that step stand before it.
unfoldable pub place : Database → ℕ → ℕ
place d e = sum_up_to (λ i. cond ((exit d (i + 1)).left == (exit d e).left) 1 0) (e - 1)
