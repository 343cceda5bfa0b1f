use Rattle.std.proofs.Common.{ap, ◌∙◌, arith}
use Rattle.control.specs.Databases.{rows_of}
use Rattle.control.specs.Points.{width_of}
use Rattle.lines.proofs.ValueParts.{few_points}
use Rattle.lines.proofs.classes.points_of.Goals as goal

pub overflow_add-result : goal.overflow_add-result
overflow_add-result c =
    let few = few_points (rows_of c.args.design.now.rows) c.args.design.now.usable c.args.symbol c.requires.row in
    let first = c.base-first.ensures c.requires.row in
    let width = ap (λ r. r.width) c.symbol.ensures ∙ ap (λ r. width_of (rows_of r) c.args.symbol) c.rows.ensures in
    omega arith

pub returns-clause-few : goal.returns-clause-few
returns-clause-few c =
    let few = few_points (rows_of c.args.design.now.rows) c.args.design.now.usable c.args.symbol c.requires.row in
    let first = c.base-first.ensures c.requires.row in
    let width = ap (λ r. r.width) c.symbol.ensures ∙ ap (λ r. width_of (rows_of r) c.args.symbol) c.rows.ensures in
    omega arith
