use Rattle.std.proofs.Common.{length}
use Rattle.least.proofs.Notes.{rows_turn, each_end}
use Rattle.rules.specs.Steps.{statement_faults}
use Rattle.rules.proofs.steps.note_statements.Goals as goal

pub loop-rows-preserved : goal.loop-rows-preserved
loop-rows-preserved c = rows_turn (statement_faults c.args.sides.now c.args.widths.now) c.args.statements.now c.loop-rows.rows _ c.loop-rows-test.true c.loop-rows.invariant c.note_statement.ensures

pub returns : goal.returns
returns c = each_end (λ before s. statement_faults c.args.sides.now c.args.widths.now (length before) s) c.args.statements.now c.loop-rows.rows c.loop-rows-test.false c.loop-rows.invariant
