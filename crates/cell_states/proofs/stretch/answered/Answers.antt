use Rattle.std.proofs.Common.{refl}
use Rattle.vl_design.specs.Trees.{exp_of, flat_of, target_of}
use Rattle.cell_emit.specs.cell_form.specs.Views.{list_of}
use Rattle.cell_emit.specs.Envs.{env_of}
use Rattle.cell_emit.specs.Pendings.{slots_of}
use Rattle.cell_expr.specs.Bodies.{assignment}
use Rattle.cell_states.proofs.Stretching.{all-one, on-three}
use Rattle.cell_states.proofs.stretch.answered.Goals as goal

pub returns-clause-does : goal.returns-clause-does
returns-clause-does c =
    let d = flat_of c.args.design.now in
    let a = assignment c.args.later (target_of c.args.target.now) (exp_of c.args.source.now) in
    on-three c.assign.result c.assign.ensures.does c.assign.ensures.leaves c.assign.ensures.sites (λ does leaves sites.
    all-one d a c.args.begun.now.at.here (env_of c.args.begun.now.at) (env_of c.assign.new.at) (slots_of c.args.begun.now.pending) (slots_of c.assign.new.pending) (list_of c.args.cells.now) (list_of c.assign.new.cells) refl c.requires.fits
    does leaves sites)
