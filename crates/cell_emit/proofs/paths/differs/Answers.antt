use Rattle.cell_form.specs.Views.{list_of}
use Rattle.cell_emit.proofs.Newest.{ok-gives}
use Rattle.cell_emit.proofs.Casing.{gives-differing}
use Rattle.cell_emit.proofs.paths.differs.Goals as goal

pub returns-in-Some-clause-gives : goal.returns-in-Some-clause-gives
returns-in-Some-clause-gives c =
    ok-gives c.cared.result _ _
    (λ r g. gives-differing c.args.subject c.args.label c.in-Some.bits c.in_ok-all.all r c.width_of-width.result c.args.care (list_of c.args.cells.now) (list_of c.binary.new.cells) (list_of c.cared.new.cells)
    c.in-Some.is c.width_of-width.ensures c.in_ok-all.ensures.gives g)
    c.cared.ensures.gives
