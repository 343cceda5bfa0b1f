use Rattle.inspect_layout.proofs.expressions.+is_expression.Given as goal

abbrev pub decreases-is_expression : goal.decreases-is_expression
decreases-is_expression l = l.root
