use Rattle.least.proofs.Notes.{then, notes_as}
use Rattle.symbols.specs.Widths.{disagree, unequal}
use Rattle.rules.proofs.steps.note_statement.Goals as goal

pub returns : goal.returns
returns c = then (then c.note_overflow.ensures.notes c.note_condition.ensures)
    (notes_as _ (λ i. disagree unequal c.args.statement.sign (c.row_at-targets.ensures i).width (c.row_at-value.ensures i)) c.note_unequal.ensures)
