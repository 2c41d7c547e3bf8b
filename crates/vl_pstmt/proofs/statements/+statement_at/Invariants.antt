use Rattle.vl_pstmt.proofs.statements.+statement_at.Given as goal

abbrev pub decreases-statement_at : goal.decreases-statement_at
decreases-statement_at l = l.room
