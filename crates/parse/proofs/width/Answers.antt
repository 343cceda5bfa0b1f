use Rattle.std.proofs.Common.{Some, refl, ap, arith}
use Rattle.std.proofs.lemmas.Grind.{common_steps}
use Rattle.grammar.specs.Trees.{both, none, some}
use Rattle.cursor.proofs.Reading.{reading}
use Rattle.parse.proofs.width.Goals as goal

pub returns-then-not-at-clause-told : goal.returns-then-not-at-clause-told
returns-then-not-at-clause-told c = (none, grind (arith, common_steps, reading), refl)

pub returns-clause-told : goal.returns-clause-told
returns-clause-told c =
    let open_bracket = c.in_ok-take.ensures.told.0 in
    let bits = c.in_ok-bits.ensures.told in
    let close_bracket = c.in_ok-take-2.ensures.told.0 in
    (some (both open_bracket (both bits.0 close_bracket)), grind (arith, common_steps, reading), ap Some bits.2)
