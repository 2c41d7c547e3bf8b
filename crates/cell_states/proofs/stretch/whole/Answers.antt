use Rattle.std.proofs.Common.{refl}
use Rattle.vl_design.specs.Trees.{flat_of, stm_of}
use Rattle.cell_emit.specs.cell_form.specs.Views.{list_of}
use Rattle.cell_emit.specs.Envs.{env_of}
use Rattle.cell_emit.specs.Pendings.{slots_of}
use Rattle.cell_states.proofs.Stretching.{all-one, on-three}
use Rattle.cell_states.proofs.stretch.whole.Goals as goal

pub returns-clause-does : goal.returns-clause-does
returns-clause-does c =
    let d = flat_of c.args.design.now in
    on-three c.segment.result c.segment.ensures.does c.segment.ensures.leaves c.segment.ensures.sites (λ does leaves sites path.
    let a = stm_of path c.args.a.now in
    all-one d a c.args.begun.now.at.here (env_of c.args.begun.now.at) (env_of c.segment.new.at) (slots_of c.args.begun.now.pending) (slots_of c.segment.new.pending) (list_of c.args.cells.now) (list_of c.segment.new.cells) refl c.requires.fits
    (λ files. does files path) (λ files. leaves files path) (sites path))
