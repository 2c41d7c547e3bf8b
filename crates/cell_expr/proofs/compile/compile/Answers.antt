use Rattle.vl_design.specs.Trees.{exp_of}
use Rattle.cell_emit.specs.cell_form.specs.Views.{list_of}
use Rattle.cell_emit.specs.Envs.{env_of}
use Rattle.cell_emit.proofs.Newest.{ok-gives}
use Rattle.cell_expr.proofs.Outside.{compiles-outside, outer-scope, outer-body, outer-compiled}
use Rattle.cell_expr.proofs.compile.compile.Goals as goal

pub expression_at-requires-clause-functions : goal.expression_at-requires-clause-functions
expression_at-requires-clause-functions c = outer-compiled c.args.design.now c.room_of-room.result c.room_of-room.ensures.names c.requires.sound c.requires.functions

pub returns-clause-gives : goal.returns-clause-gives
returns-clause-gives c =
    let d = c.args.design.now in
    let room = c.room_of-room.result in
    let names = c.room_of-room.ensures.names in
    ok-gives c.expression_at.result _ _
    (λ r h files. compiles-outside _ _ _ _ _ _ (exp_of c.args.e.now) c.args.c (env_of c.args.at.now) (list_of c.args.cells.now) (list_of c.expression_at.new.cells) r names (outer-scope d room files names) (outer-body d room names) (h files))
    c.expression_at.ensures.gives
