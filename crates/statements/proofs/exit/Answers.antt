use Rattle.std.proofs.Common.{arith}
use Rattle.std.proofs.lemmas.Grind.{common_steps}
use Rattle.statements.proofs.Steps.{steps, was_read}
use Rattle.statements.proofs.exit.Goals as goal

pub returns-clause-told : goal.returns-clause-told
returns-clause-told c = was_read _ _ _ _ (grind (arith, common_steps, steps))
