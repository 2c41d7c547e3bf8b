use Rattle.cell_form.specs.Views.{list_of}
use Rattle.cell_emit.proofs.Newest.{ok-gives}
use Rattle.cell_emit.proofs.Assigning.{gives-whole}
use Rattle.cell_emit.proofs.assign.whole.Goals as goal

pub returns-clause-gives : goal.returns-clause-gives
returns-clause-gives c =
    ok-gives c.mux.result _ _
    (λ r g. gives-whole c.args.wide c.args.entry c.args.part c.args.off c.in_ok-before.before r (list_of c.args.cells.now) (list_of c.begun.new.cells) (list_of c.mux.new.cells)
    c.requires.part.there c.requires.off c.in_ok-before.ensures.gives g)
    c.mux.ensures.gives
