-- The rows of the working table that are in use. Assumes nothing.
use Rattle.std.proofs.Common.{ℕ, ◌+◌, ◌<◌, length, refl, inl, inr, arith}
use Rattle.least.specs.Each.{IsRow}
use Rattle.database.specs.Rows.{Database, node}
use Rattle.control.specs.Points.{width_of, point_of, all_bits, held_bits, bit_row}
use Rattle.control.specs.Levels.{WorkRow}
use Rattle.control.specs.Usable.{Usable}
use Rattle.settling.proofs.Points.{ends_within, held_within, bits_few}

module _ (d : Database) (u : Usable d) where
  module _ (y b : ℕ) (row : IsRow d.symbols y) (low : b < width_of d y) where
    pub point_low : point_of d y b < 1024
    point_low = omega (arith, ends_within d y row, bits_few d u)

    pub point_used : WorkRow d (point_of d y b)
    point_used = inl (omega (arith, ends_within d y row))

  module _ (n b : ℕ) (row : IsRow d.nodes n) (low : b < (node d n).width) where
    pub bit_low : bit_row n b < 17472
    bit_low = omega (arith, u.few_nodes, row.0, row.1, (u.nodes n row).width.1)

    pub bit_used : WorkRow d (bit_row n b)
    bit_used = inr (n, b, row, low, refl)

  module _ (i : ℕ) (low : i < length d.steps) where
    pub step_low : all_bits d + i < 1088
    step_low = omega (arith, bits_few d u, u.few_steps)

    pub held_low : held_bits d + i < 1088
    held_low = omega (arith, bits_few d u, u.few_steps, held_within d)

    pub step_used : WorkRow d (all_bits d + i)
    step_used = inl (omega arith)

  module _ (p : ℕ) (low : p < held_bits d) where
    pub kept_low : p < 1024
    kept_low = omega (arith, bits_few d u, held_within d)

    pub kept_used : WorkRow d p
    kept_used = inl (omega (arith, held_within d))
