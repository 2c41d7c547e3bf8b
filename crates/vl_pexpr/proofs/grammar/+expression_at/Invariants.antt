use Rattle.vl_pexpr.proofs.grammar.+expression_at.Given as goal

abbrev pub decreases-expression_at : goal.decreases-expression_at
decreases-expression_at l = l.depth
