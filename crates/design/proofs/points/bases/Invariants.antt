use Rattle.std.proofs.Common.{◌≡◌, ℕ, ◌≤◌, length}
use Rattle.control.specs.Databases.{rows_of}
use Rattle.control.specs.Points.{base}
use Rattle.design.specs.Derived.{in_row}
use Rattle.design.proofs.points.bases.Given as goal

abbrev pub invariant-loop-index : goal.invariant-loop-index
invariant-loop-index l = record {
  symbols : length l.bases ≡ 64;
  bases : (y : ℕ) → 1 ≤ y → y ≤ l.index → in_row l.bases y ≡ base (rows_of l.rows) y;
}
