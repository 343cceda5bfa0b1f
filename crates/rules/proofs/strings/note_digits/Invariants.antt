use Rattle.std.proofs.Common.{◌≡◌, ◌≤◌, take, vec_items, vec_len, vec_capacity}
use Rattle.least.specs.Order.{Notes}
use Rattle.rules.specs.Strings.{strings, digits_faults}
use Rattle.rules.proofs.strings.note_digits.Given as goal

abbrev pub invariant-loop-digit : goal.invariant-loop-digit
invariant-loop-digit l = record {
  notes : Notes l.initial.least (digits_faults (take l.digit-index l.digits)) l.least;
  values : vec_items l.strings ≡ strings (take l.digit-index l.digits);
  rows : vec_len l.strings ≡ l.digit-index;
  memory : vec_capacity l.initial.strings ≤ vec_capacity l.strings;
}
