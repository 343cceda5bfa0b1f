use Rattle.std.proofs.Common.{◌≢◌, ◌-◌, length, ap, sym, subst, arith}
use Rattle.grammar.specs.declared.draft.Heading.{Heading}
use Rattle.drafts.specs.declared.faults.DraftFault.{DraftFault}
use Rattle.drafts.specs.declared.faults.DraftFault.TheVariants.{OutOfMemory}
use Rattle.grammar.proofs.Room.{rows_reserved}
use Rattle.cursor.proofs.Room.{stop_reserved}
use Rattle.drafts.proofs.Room.{enough, few_rows, stop_no_want}
use Rattle.drafts.proofs.read_module.Goals as goal

pub returns-in-Err-clause-memory : goal.returns-in-Err-clause-memory
returns-in-Err-clause-memory c = λ limit few reserved.
    let words = length c.new-cursor.result in
    let left = c.in-Err.ensures.room limit (limit - words) (enough limit words _ (omega (arith, few, ap length c.new-cursor.ensures)) (c.clear.ensures.memory limit reserved)) in
    stop_reserved Heading _ _ _ left

pub returns-in-Err-clause-room : goal.returns-in-Err-clause-room
returns-in-Err-clause-room c = λ limit few reserved.
    let words = length c.new-cursor.result in
    let left = c.in-Err.ensures.room limit (limit - words) (enough limit words _ (omega (arith, few, ap length c.new-cursor.ensures)) (c.clear.ensures.memory limit reserved)) in
    subst (λ (e : DraftFault). e ≢ OutOfMemory) (sym c.fault_at.ensures) (stop_no_want Heading _ _ _ _ left)

pub returns-in-empty-clause-memory : goal.returns-in-empty-clause-memory
returns-in-empty-clause-memory c = λ limit few reserved.
    let words = length c.new-cursor.result in
    rows_reserved limit _ _ (c.in-Ok.ensures.room limit (limit - words) (enough limit words _ (omega (arith, few, ap length c.new-cursor.ensures)) (c.clear.ensures.memory limit reserved)))

pub returns-in_default-clause-memory : goal.returns-in_default-clause-memory
returns-in_default-clause-memory c = λ limit few reserved.
    let words = length c.new-cursor.result in
    rows_reserved limit _ _ (c.in-Ok.ensures.room limit (limit - words) (enough limit words _ (omega (arith, few, ap length c.new-cursor.ensures)) (c.clear.ensures.memory limit reserved)))

pub returns-in-empty-clause-few : goal.returns-in-empty-clause-few
returns-in-empty-clause-few c = λ limit few reserved.
    let words = length c.new-cursor.result in
    let left = c.in-Ok.ensures.room limit (limit - words) (enough limit words _ (omega (arith, few, ap length c.new-cursor.ensures)) (c.clear.ensures.memory limit reserved)) in
    few_rows limit _ _ _ left
