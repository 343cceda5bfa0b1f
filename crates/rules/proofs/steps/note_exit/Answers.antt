use Rattle.std.proofs.Common.{◌==◌, cond, length, None, sym, ap, ◌∙◌}
use Rattle.least.specs.declared.rule.Rule.TheVariants.{StepInteger, Overflow}
use Rattle.least.specs.Each.{last_of}
use Rattle.least.proofs.Notes.{then, by_test}
use Rattle.symbols.proofs.Sides.{unless_more, unless_if}
use Rattle.rules.specs.Steps.{most_exits, missing, count_up_to, is_missing}
use Rattle.rules.proofs.steps.note_exit.Goals as goal

pub returns : goal.returns
returns c =
    let rows = length c.args.before.now in
    let integer = c.args.exit.entered.integer in
    let comma = c.args.exit.entered.comma in
    let absent = c.is_missing-absent.ensures in
    let last = last_of None c.args.before.now in
    record {
      notes = then (by_test _ _ integer.place StepInteger absent c.note_if.ensures) c.note_overflow-over.ensures.notes;
      value = c.width_unless-2.ensures
          ∙ (λ j. cond (c.note_overflow-over.ensures.value j) None ((c.width_unless.ensures ∙ (λ i. cond (absent i) None ((c.count_up_to-count.ensures ∙ ap (count_up_to comma) c.last_of.ensures) i))
          ∙ sym (unless_if (is_missing c.args.steps.now integer.value) integer.place StepInteger (count_up_to comma last))) j))
          ∙ unless_more (missing c.args.steps.now integer) (rows == most_exits) integer.place Overflow (count_up_to comma last);
    }
