use Rattle.vl_pstmt.proofs.targets.+lvalue_at.Given as goal

abbrev pub decreases-lvalue_at : goal.decreases-lvalue_at
decreases-lvalue_at l = l.depth
