use Rattle.std.proofs.Common.{◌≡◌, ◌≤◌, take, vec_items, vec_len, vec_capacity}
use Rattle.least.specs.Order.{Notes}
use Rattle.rules.specs.Steps.{counts, exits_faults}
use Rattle.rules.proofs.steps.note_exits.Given as goal

abbrev pub invariant-loop-exit : goal.invariant-loop-exit
invariant-loop-exit l = record {
  notes : Notes l.initial.least (exits_faults l.steps (take l.exit-index l.exits)) l.least;
  values : vec_items l.counts ≡ counts l.steps (take l.exit-index l.exits);
  rows : vec_len l.counts ≡ l.exit-index;
  memory : vec_capacity l.initial.counts ≤ vec_capacity l.counts;
}
