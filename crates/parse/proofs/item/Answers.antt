use Rattle.std.proofs.Common.{arith}
use Rattle.std.proofs.lemmas.Grind.{common_steps}
use Rattle.grammar.specs.Trees.{both}
use Rattle.cursor.proofs.Reading.{reading}
use Rattle.parse.proofs.item.Goals as goal

pub returns-clause-told : goal.returns-clause-told
returns-clause-told c = (both c.in_ok-name.ensures.told.0 c.in_ok-width.ensures.told.0, grind (arith, common_steps, reading), grind (arith, common_steps))
