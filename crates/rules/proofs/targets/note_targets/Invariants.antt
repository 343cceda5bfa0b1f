use Rattle.std.proofs.Common.{◌≡◌, ◌≤◌, take, vec_items, vec_len, vec_capacity}
use Rattle.least.specs.Order.{Notes}
use Rattle.rules.specs.Targets.{sides, targets_faults}
use Rattle.rules.proofs.targets.note_targets.Given as goal

abbrev pub invariant-loop-target : goal.invariant-loop-target
invariant-loop-target l = record {
  notes : Notes l.initial.least (targets_faults l.by.text.now l.by.items.now l.by.statements.now (take l.target-index l.targets)) l.least;
  values : vec_items l.sides ≡ sides l.by.text.now l.by.items.now l.by.statements.now (take l.target-index l.targets);
  rows : vec_len l.sides ≡ l.target-index;
  memory : vec_capacity l.initial.sides ≤ vec_capacity l.sides;
}
