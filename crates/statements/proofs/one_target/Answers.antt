use Rattle.std.proofs.Common.{arith}
use Rattle.std.proofs.lemmas.Grind.{common_steps}
use Rattle.statements.proofs.one_target.Goals as goal

pub returns-clause-told : goal.returns-clause-told
returns-clause-told c = let t = c.in_ok-reference.ensures.told 16 in (t.0, t.1, grind (arith, common_steps))
