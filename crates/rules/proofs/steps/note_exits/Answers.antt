use Rattle.std.proofs.Common.{◌≡◌, [], ◌∷◌, ◌++◌, length, take, vec_items, sym, ap, ◌∙◌, subst, arith}
use Rattle.least.proofs.Lists.{grown_end}
use Rattle.least.proofs.Notes.{pass_grows, rows_turn, each_end}
use Rattle.rules.specs.Steps.{exit_faults, exit_count, counts}
use Rattle.rules.proofs.Counts.{Few, counts_few}
use Rattle.rules.proofs.steps.note_exits.Goals as goal

pub note_exit-count-requires : goal.note_exit-count-requires
note_exit-count-requires c = subst Few (sym (c.deref.ensures.value ∙ c.loop-exit.invariant.values)) (counts_few c.args.steps.now (take c.loop-exit.exit-index c.args.exits.now))

pub loop-exit-preserved : goal.loop-exit-preserved
loop-exit-preserved c =
    let steps = c.args.steps.now in
    let h = c.loop-exit.invariant in
    let before = c.deref.result.now in
    let so_far : before ≡ counts steps (take c.loop-exit.exit-index c.args.exits.now) = c.deref.ensures.value ∙ h.values in
    let noted = c.note_exit-count.ensures in
    let rows : length before ≡ c.loop-exit.exit-index = c.deref.ensures.len ∙ h.rows in
    let pushed = c.in_ok-push.ensures in
    let grows = pushed.items ∙ ap (λ rows. rows ++ c.note_exit-count.result ∷ []) (sym c.deref.ensures.value) in
    record {
      notes = rows_turn (exit_faults steps) c.args.exits.now c.loop-exit.exit-index _ c.loop-exit-test.true h.notes (rw rows at noted.notes);
      values = pass_grows (λ rows e. exit_faults steps (length rows) e) (exit_count steps) c.args.exits.now c.loop-exit.exit-index _ c.loop-exit-test.true before so_far c.note_exit-count.result (vec_items c.push.new.self) grows noted.value;
      rows = omega (arith, pushed.len, h.rows);
      memory = omega (arith, pushed.capacity, h.memory);
    }

pub returns-in_err-push-clause-memory : goal.returns-in_err-push-clause-memory
returns-in_err-push-clause-memory c = λ limit reserved. omega (arith, c.in_err-push.ensures.capacity, c.loop-exit.invariant.memory, c.clear.ensures.capacity)

pub returns-in_err-push-clause-room : goal.returns-in_err-push-clause-room
returns-in_err-push-clause-room c = λ limit reserved few.
    let failed = c.in_err-push.ensures in
    absurd (omega (arith, failed.len, failed.capacity, failed.full, c.loop-exit.invariant.rows, c.loop-exit.invariant.memory, c.clear.ensures.capacity))

pub returns-clause-notes : goal.returns-clause-notes
returns-clause-notes c = each_end (λ before e. exit_faults c.args.steps.now (length before) e) c.args.exits.now c.loop-exit.exit-index c.loop-exit-test.false c.loop-exit.invariant.notes

pub returns-clause-values : goal.returns-clause-values
returns-clause-values c = grown_end (exit_count c.args.steps.now) c.args.exits.now c.loop-exit.exit-index c.loop-exit-test.false (vec_items c.loop-exit.counts) c.loop-exit.invariant.values
