use Rattle.cell_emit.specs.cell_form.specs.Views.{list_of}
use Rattle.cell_emit.proofs.Newest.{ok-gives}
use Rattle.cell_waves.proofs.Replacing.{replaces}
use Rattle.cell_waves.proofs.update.replaced.Goals as goal

pub returns-clause-gives : goal.returns-clause-gives
returns-clause-gives c =
    ok-gives c.binary-3.result _ _
    (λ r g. replaces c.args.width c.args.old c.args.new c.args.mask c.in_ok-differing.differing c.in_ok-chosen.chosen r (list_of c.args.cells.now) (list_of c.binary.new.cells) (list_of c.binary-2.new.cells) (list_of c.binary-3.new.cells)
    c.requires.old c.requires.new c.requires.mask c.in_ok-differing.ensures.gives c.in_ok-chosen.ensures.gives g)
    c.binary-3.ensures.gives
