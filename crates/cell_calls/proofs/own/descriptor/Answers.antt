use Rattle.vl_design.specs.Trees.{exp_of, flat_of}
use Rattle.cell_emit.specs.cell_form.specs.Views.{list_of}
use Rattle.cell_emit.proofs.Newest.{ok-gives}
use Rattle.cell_emit.specs.Envs.{env_of}
use Rattle.cell_calls.proofs.Owning.{file-cut}
use Rattle.cell_calls.proofs.own.descriptor.Goals as goal

pub read-requires-clause-there : goal.read-requires-clause-there
read-requires-clause-there c = c.in_ok-own.ensures.gives.slot.there

pub returns-clause-gives : goal.returns-clause-gives
returns-clause-gives c =
    let d = flat_of c.args.site.design.now in
    let h = c.in_ok-own.ensures.gives in
    ok-gives c.read.result _ _
    (λ r g. file-cut d (env_of c.args.site.at.now) (exp_of c.args.fd.now) (list_of c.args.cells.now) (list_of c.own_value.new.cells) (list_of c.read.new.cells) c.in_ok-own.own r c.requires.ready.fits h g)
    c.read.ensures.gives
