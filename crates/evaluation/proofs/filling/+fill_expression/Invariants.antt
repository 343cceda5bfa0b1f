use Rattle.evaluation.proofs.filling.+fill_expression.Given as goal

abbrev pub decreases-fill_expression : goal.decreases-fill_expression
decreases-fill_expression g l = l.n
