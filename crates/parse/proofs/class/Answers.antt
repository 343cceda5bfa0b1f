use Rattle.std.proofs.Common.{refl, arith}
use Rattle.std.proofs.lemmas.Grind.{common_steps}
use Rattle.grammar.specs.Trees.{left, right}
use Rattle.cursor.proofs.Reading.{reading}
use Rattle.parse.proofs.class.Goals as goal

pub returns-then-at-clause-told : goal.returns-then-at-clause-told
returns-then-at-clause-told c = (left c.in_ok-take.ensures.told.0, grind (arith, common_steps, reading), refl)

pub returns-then-at-2-clause-told : goal.returns-then-at-2-clause-told
returns-then-at-2-clause-told c = (right (left c.in_ok-take-2.ensures.told.0), grind (arith, common_steps, reading), refl)

pub returns-then-at-3-clause-told : goal.returns-then-at-3-clause-told
returns-then-at-3-clause-told c = (right (right (left c.in_ok-take-3.ensures.told.0)), grind (arith, common_steps, reading), refl)

pub returns-clause-told : goal.returns-clause-told
returns-clause-told c = (right (right (right c.in_ok-take-4.ensures.told.0)), grind (arith, common_steps, reading), refl)
