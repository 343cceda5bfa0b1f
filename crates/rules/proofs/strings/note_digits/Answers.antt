use Rattle.std.proofs.Common.{◌≡◌, [], ◌∷◌, ◌++◌, take, vec_items, sym, ap, ◌∙◌, arith}
use Rattle.least.proofs.Lists.{grown_end}
use Rattle.least.proofs.Notes.{pass_notes, pass_grows, each_end}
use Rattle.rules.specs.Strings.{digit_faults, string_up_to, strings}
use Rattle.rules.proofs.strings.note_digits.Goals as goal

pub loop-digit-preserved : goal.loop-digit-preserved
loop-digit-preserved c =
    let h = c.loop-digit.invariant in
    let before = c.deref.result.now in
    let so_far : before ≡ strings (take c.loop-digit.digit-index c.args.digits.now) = c.deref.ensures.value ∙ h.values in
    let pushed = c.in_ok-push.ensures in
    let grows = pushed.items ∙ ap (λ rows. rows ++ c.note_digit-string.result ∷ []) (sym c.deref.ensures.value) in
    record {
      notes = pass_notes digit_faults string_up_to c.args.digits.now c.loop-digit.digit-index _ c.loop-digit-test.true before so_far h.notes c.note_digit-string.ensures.notes;
      values = pass_grows digit_faults string_up_to c.args.digits.now c.loop-digit.digit-index _ c.loop-digit-test.true before so_far c.note_digit-string.result (vec_items c.push.new.self) grows c.note_digit-string.ensures.value;
      rows = omega (arith, pushed.len, h.rows);
      memory = omega (arith, pushed.capacity, h.memory);
    }

pub returns-in_err-push-clause-memory : goal.returns-in_err-push-clause-memory
returns-in_err-push-clause-memory c = λ limit reserved. omega (arith, c.in_err-push.ensures.capacity, c.loop-digit.invariant.memory, c.clear.ensures.capacity)

pub returns-in_err-push-clause-room : goal.returns-in_err-push-clause-room
returns-in_err-push-clause-room c = λ limit reserved few.
    let failed = c.in_err-push.ensures in
    absurd (omega (arith, failed.len, failed.capacity, failed.full, c.loop-digit.invariant.rows, c.loop-digit.invariant.memory, c.clear.ensures.capacity))

pub returns-clause-notes : goal.returns-clause-notes
returns-clause-notes c = each_end (λ before d. digit_faults (strings before) d) c.args.digits.now c.loop-digit.digit-index c.loop-digit-test.false c.loop-digit.invariant.notes

pub returns-clause-values : goal.returns-clause-values
returns-clause-values c = grown_end string_up_to c.args.digits.now c.loop-digit.digit-index c.loop-digit-test.false (vec_items c.loop-digit.strings) c.loop-digit.invariant.values
