use Rattle.std.proofs.Common.{refl}
use Rattle.grammar.specs.Drafts.{row_lists, head_at, value_rows}
use Rattle.statements.proofs.Steps.{wrote_on, on_sign}
use Rattle.statements.specs.Parts.{assigned_rows}
use Rattle.statements.proofs.assigned.Goals as goal

pub returns-clause-told : goal.returns-clause-told
returns-clause-told c =
    let before = row_lists c.args.rows.now in
    let h = c.args.head in
    wrote_on (on_sign _ _ _ _ _ _ c.in_ok-sign.ensures.told) before before (row_lists c.value.new.rows) c.value.new.cursor (assigned_rows h.place h.step h.kind h.condition) (value_rows (head_at h.place h.step h.kind h.condition c.in_ok-sign.sign)) (λ e. refl) c.value.result c.value.ensures.told
