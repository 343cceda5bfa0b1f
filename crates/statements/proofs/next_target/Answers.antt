use Rattle.std.proofs.Common.{ℕ, ap, arith}
use Rattle.std.proofs.lemmas.Grind.{common_steps}
use Rattle.grammar.specs.Trees.{mark_at, both}
use Rattle.grammar.specs.Drafts.{RowLists}
use Rattle.statements.proofs.Steps.{steps}
use Rattle.grammar.proofs.Room.{rows_room_less}
use Rattle.statements.proofs.next_target.Goals as goal

pub returns-clause-told : goal.returns-clause-told
returns-clause-told c = (both (mark_at c.in_ok-comma.comma) c.in_ok-one_target.ensures.told.0, grind (arith, common_steps, steps), ap (λ (x : ℕ × RowLists). x.1) c.in_ok-one_target.ensures.told.2)

pub returns-clause-room : goal.returns-clause-room
returns-clause-room c = λ limit slack r.
    c.in_ok-one_target.ensures.room limit slack (rows_room_less limit _ _ _ (omega (arith, c.in_ok-comma.ensures.forward)) r)
