-- The soundness of a database is that of its rows and of how they lie. Assumes nothing.
use Rattle.std.proofs.Common.{ℕ}
use Rattle.database.specs.Rows.{Database}
use Rattle.database.specs.Soundness.{Sound}
use Rattle.inspect_rows.specs.Inspection.{RowsSound}
use Rattle.inspect_layout.specs.Layout.{StepsInOrder, TargetsInOrder}

pub parts_sound : (bytes : ℕ) (d : Database) → RowsSound bytes d → StepsInOrder d → TargetsInOrder d → Sound bytes d
parts_sound bytes d r steps targets = record {
  few = r.few;
  symbols = r.symbols;
  in_order = r.in_order;
  bits = r.bits;
  some_step = r.some_step;
  steps = r.steps;
  closes = r.closes;
  statements = r.statements;
  targets = r.targets;
  exits = r.exits;
  nodes = r.nodes;
  laid = steps;
  sides = targets;
}

pub sound_rows : (bytes : ℕ) (d : Database) → Sound bytes d → RowsSound bytes d
sound_rows bytes d s = record {
  few = s.few;
  symbols = s.symbols;
  in_order = s.in_order;
  bits = s.bits;
  some_step = s.some_step;
  steps = s.steps;
  closes = s.closes;
  statements = s.statements;
  targets = s.targets;
  exits = s.exits;
  nodes = s.nodes;
}
