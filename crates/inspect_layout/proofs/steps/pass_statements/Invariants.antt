use Rattle.std.proofs.Common.{ℕ, drop, Option}
use Rattle.control.specs.Databases.{rows_of}
use Rattle.database.specs.Expressions.{shapes}
use Rattle.database.specs.Soundness.{statement_roots}
use Rattle.inspect_layout.specs.Inner.{EndsAt}
use Rattle.inspect_layout.proofs.steps.pass_statements.Given as goal

abbrev pub invariant-loop-statement : goal.invariant-loop-statement
invariant-loop-statement l =
    let sh = shapes (rows_of l.rows) in
    (o : Option ℕ) → EndsAt sh l.end (statement_roots (drop l.statement-index l.statements)) o → EndsAt sh l.before (statement_roots l.statements) o
