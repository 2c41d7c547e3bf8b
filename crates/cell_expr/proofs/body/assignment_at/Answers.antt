use Rattle.cell_expr.proofs.Compiling.{compilers}
use Rattle.cell_expr.proofs.body.assignment_at.Goals as goal

pub assignment_in-requires-clause-functions : goal.assignment_in-requires-clause-functions
assignment_in-requires-clause-functions c =
    compilers c.args.room.now c.args.depth _ _ c.requires.functions
    (λ f cells at deep there fits first. (deep, (c.requires.functions, (there, (fits, first)))))
    (λ f cells cells' at at' r p. p.0)
    (λ f cells cells' at at' r p. p.1)
