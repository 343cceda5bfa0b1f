use Rattle.std.proofs.Common.{arith, refl, sym, ◌∙◌}
use Rattle.std.proofs.lemmas.Grind.{common_steps}
use Rattle.words.specs.declared.token.Sign.TheVariants.{Semicolon}
use Rattle.words.specs.declared.token.Keyword.TheVariants.{Null, DeadEnd}
use Rattle.grammar.specs.Rules.{stmt, branch, keyword, either, series}
use Rattle.grammar.specs.Trees.{left, right}
use Rattle.grammar.specs.Promise.{deepest}
use Rattle.grammar.specs.Drafts.{row_lists, series_rows, action_rows}
use Rattle.statements.proofs.Steps.{steps, join, gave_on, on_right}
use Rattle.statements.proofs.action.Goals as goal

pub returns-in_ok-take-clause-told : goal.returns-in_ok-take-clause-told
returns-in_ok-take-clause-told c = (left c.in_ok-take.ensures.told.0, grind (arith, common_steps, steps), refl)

pub returns-in_ok-take-2-clause-told : goal.returns-in_ok-take-2-clause-told
returns-in_ok-take-2-clause-told c = (right (left c.in_ok-take-2.ensures.told.0), grind (arith, common_steps, steps), refl)

pub returns-else-at-2-clause-told : goal.returns-else-at-2-clause-told
returns-else-at-2-clause-told c =
    let before = row_lists c.args.rows.now in
    gave_on (join (on_right deepest (keyword Null) (either (keyword DeadEnd) (series stmt Semicolon branch)) c.args.cursor.now (sym c.at.ensures ∙ c.if-at.false)) (on_right deepest (keyword DeadEnd) (series stmt Semicolon branch) c.args.cursor.now (sym c.at-else-at.ensures ∙ c.if-at-2.false))) before before (row_lists c.series.new.rows) c.series.new.cursor (action_rows c.args.step) (series_rows c.args.step) (λ t. refl) c.series.result c.series.ensures.told
