use Rattle.std.proofs.Common.{◌≡◌, [], ◌∷◌, ◌++◌, take, vec_items, sym, ap, ◌∙◌, arith}
use Rattle.least.proofs.Lists.{grown_end}
use Rattle.least.proofs.Notes.{pass_notes, pass_grows, each_end}
use Rattle.rules.specs.Targets.{target_faults, side_up_to, sides}
use Rattle.rules.proofs.targets.note_targets.Goals as goal

pub loop-target-preserved : goal.loop-target-preserved
loop-target-preserved c =
    let text = c.args.by.now.text.now in
    let items = c.args.by.now.items.now in
    let statements = c.args.by.now.statements.now in
    let h = c.loop-target.invariant in
    let before = c.deref.result.now in
    let so_far : before ≡ sides text items statements (take c.loop-target.target-index c.args.targets.now) = c.deref.ensures.value ∙ h.values in
    let pushed = c.in_ok-push.ensures in
    let grows = pushed.items ∙ ap (λ rows. rows ++ c.note_target-side.result ∷ []) (sym c.deref.ensures.value) in
    record {
      notes = pass_notes (target_faults text items statements) (side_up_to text items statements) c.args.targets.now c.loop-target.target-index _ c.loop-target-test.true before so_far h.notes c.note_target-side.ensures.notes;
      values = pass_grows (target_faults text items statements) (side_up_to text items statements) c.args.targets.now c.loop-target.target-index _ c.loop-target-test.true before so_far c.note_target-side.result (vec_items c.push.new.self) grows c.note_target-side.ensures.value;
      rows = omega (arith, pushed.len, h.rows);
      memory = omega (arith, pushed.capacity, h.memory);
    }

pub returns-in_err-push-clause-memory : goal.returns-in_err-push-clause-memory
returns-in_err-push-clause-memory c = λ limit reserved. omega (arith, c.in_err-push.ensures.capacity, c.loop-target.invariant.memory, c.clear.ensures.capacity)

pub returns-in_err-push-clause-room : goal.returns-in_err-push-clause-room
returns-in_err-push-clause-room c = λ limit reserved few.
    let failed = c.in_err-push.ensures in
    absurd (omega (arith, failed.len, failed.capacity, failed.full, c.loop-target.invariant.rows, c.loop-target.invariant.memory, c.clear.ensures.capacity))

pub returns-clause-notes : goal.returns-clause-notes
returns-clause-notes c =
    let text = c.args.by.now.text.now in
    let items = c.args.by.now.items.now in
    let statements = c.args.by.now.statements.now in
    each_end (λ before t. target_faults text items statements (sides text items statements before) t) c.args.targets.now c.loop-target.target-index c.loop-target-test.false c.loop-target.invariant.notes

pub returns-clause-values : goal.returns-clause-values
returns-clause-values c =
    let text = c.args.by.now.text.now in
    let items = c.args.by.now.items.now in
    let statements = c.args.by.now.statements.now in
    grown_end (side_up_to text items statements) c.args.targets.now c.loop-target.target-index c.loop-target-test.false (vec_items c.loop-target.sides) c.loop-target.invariant.values
