use Rattle.cell_form.specs.Views.{list_of}
use Rattle.cell_emit.proofs.Newest.{ok-gives}
use Rattle.cell_emit.proofs.Delaying.{gives-ones}
use Rattle.cell_emit.proofs.delay.ones.Goals as goal

pub returns-clause-gives : goal.returns-clause-gives
returns-clause-gives c =
    ok-gives c.constant.result _ _
    (λ r g. gives-ones c.width_of-width.result r c.args.part (list_of c.args.cells.now) (list_of c.constant.new.cells) c.width_of-width.ensures c.requires.narrow g)
    c.constant.ensures.gives
