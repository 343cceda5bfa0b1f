use Rattle.std.proofs.Common.{◌≡◌, ℕ, ◌<◌, length}
use Rattle.control.specs.Databases.{rows_of}
use Rattle.control.specs.Points.{point_of}
use Rattle.control.specs.Levels.{OnlyIn, WorkRow}
use Rattle.evaluation.specs.Inner.{Fills, StepLevelsRight, Sourced}
use Rattle.evaluation.proofs.filling.drive.Given as goal

abbrev pub invariant-loop-b : goal.invariant-loop-b
invariant-loop-b g l = record {
  fills : Fills g.L.Level (rows_of l.design.rows) l.initial.work l.work
      (λ w xs. StepLevelsRight (rows_of l.design.rows) w xs × Sourced (rows_of l.design.rows) w xs l.symbol (length (rows_of l.design.rows).targets))
      (λ w xs. (b : ℕ) → b < l.b → xs (point_of (rows_of l.design.rows) l.symbol b) ≡ w (point_of (rows_of l.design.rows) l.symbol b));
  kept : OnlyIn (WorkRow (rows_of l.design.rows)) l.initial.work l.work;
}
