use Rattle.cell_expr.proofs.Compiling.{compilers}
use Rattle.cell_expr.proofs.body.expression_at.Goals as goal
use Rattle.vl_eval.specs.Rooms.{names_of}
use Rattle.vl_design.specs.Trees.{exp_of}
use Rattle.cell_emit.specs.cell_form.specs.Views.{list_of}
use Rattle.cell_emit.proofs.Newest.{ok-gives}
use Rattle.cell_emit.specs.Envs.{env_of}
use Rattle.cell_expr.specs.Counts.{exp_count, in_count, body_count}
use Rattle.cell_expr.proofs.Counting.{in-most}
use Rattle.cell_expr.proofs.Holding.{holds-wider}

pub compile_in-requires-clause-functions : goal.compile_in-requires-clause-functions
compile_in-requires-clause-functions c =
    compilers c.args.room.now c.args.depth _ _ c.requires.functions
    (λ f cells at deep there fits first. (deep, (c.requires.functions, (there, (fits, first)))))
    (λ f cells cells' at at' r p. p.0)
    (λ f cells cells' at at' r p. p.1)

pub returns-clause-gives : goal.returns-clause-gives
returns-clause-gives c =
    let n = names_of c.args.room.now in
    let body = body_count n.funs c.args.depth in
    let e = exp_of c.args.e.now in
    let w = c.args.c.width in
    ok-gives c.compile_in.result _ _
    (λ r h files. holds-wider n (env_of c.args.at.now) (in_count n body w e) (exp_count body e) (list_of c.args.cells.now) (list_of c.compile_in.new.cells) r w _ (in-most n body e w) (h files))
    c.compile_in.ensures.gives
