use Rattle.control.specs.Databases.{rows_of}
use Rattle.database.specs.Expressions.{shapes}
use Rattle.inspect_layout.proofs.Shapes.{shape_of, leaf_decides, unary_decides, binary_decides, binary_part}
use Rattle.inspect_layout.proofs.expressions.+is_expression.Goals as goal

pub returns-in-Some-Leaf : goal.returns-in-Some-Leaf
returns-in-Some-Leaf t c =
    let d = rows_of c.args.rows.now in
    leaf_decides (shapes d) c.args.before c.args.root _ (shape_of d c.args.root c.node.result c.node.ensures) (rw c.in-Some-Leaf.field-0-is at c.in-Some-Leaf.ensures)

pub returns-in-Some-Unary : goal.returns-in-Some-Unary
returns-in-Some-Unary t c =
    let d = rows_of c.args.rows.now in
    unary_decides (shapes d) c.args.before c.args.root _ (shape_of d c.args.root c.node.result c.node.ensures) _ (rw c.in-Some-Unary.field-0-is at c.in-Some-Unary.ensures) c.is_expression.ensures

pub returns-then-is_expression : goal.returns-then-is_expression
returns-then-is_expression t c =
    let d = rows_of c.args.rows.now in
    binary_decides (shapes d) c.args.before c.args.root _ (shape_of d c.args.root c.node.result c.node.ensures) _ _ (rw c.in-Some-Binary.field-0-is at c.in-Some-Binary.ensures)
    c.if-is_expression.ensures c.is_expression-then-is_expression.ensures

pub returns-else-is_expression : goal.returns-else-is_expression
returns-else-is_expression t c =
    let d = rows_of c.args.rows.now in
    binary_part (shapes d) c.args.before c.args.root _ (shape_of d c.args.root c.node.result c.node.ensures) _ _ (rw c.in-Some-Binary.field-0-is at c.in-Some-Binary.ensures)
    c.if-is_expression.false c.is_expression-in-Some-Binary.ensures
