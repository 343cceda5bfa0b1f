-- The points of every database stand in their sums. Assumes nothing.
use Rattle.database.specs.Rows.{Database}
use Rattle.settling.proofs.Agree.{PointFacts}
use Rattle.settling.proofs.Points.{ends_within, ends_first, ends_held, starts_behind, starts_driven, inputs_held, held_within, found_point, apart}

pub point_facts : (d : Database) → PointFacts d
point_facts d = record {
  ends = ends_within d;
  inputs_end = ends_first d;
  memory_starts = λ y row. starts_behind d y;
  held_ends = ends_held d;
  driven_starts = λ y row. starts_driven d y;
  found = found_point d;
  apart = apart d;
  inputs_held = inputs_held d;
  held_within = held_within d;
}
