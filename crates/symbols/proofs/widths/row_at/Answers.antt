use Rattle.std.proofs.Common.{◌-◌, sym, ◌∙◌, ⊎_elim, arith}
use Rattle.std.proofs.lemmas.List.{get_or_read}
use Rattle.least.proofs.Lists.{row_in, row_zero, row_past}
use Rattle.symbols.proofs.widths.row_at.Goals as goal

pub returns-then-row-rows : goal.returns-then-row-rows
returns-then-row-rows g c = get_or_read c.args.rows.now (c.args.row - 1) _ (omega arith) c.index-rows-row.is c.args.none ∙ sym (row_in c.args.none c.args.rows.now c.args.row (omega arith))

pub returns-else-row-gt0 : goal.returns-else-row-gt0
returns-else-row-gt0 g c = ⊎_elim (λ h. sym (row_past c.args.none c.args.rows.now c.args.row h.1)) (λ h. sym (row_zero c.args.none c.args.rows.now c.args.row h)) c.else-row-gt0.either
