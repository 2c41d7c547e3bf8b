use Rattle.cell_form.specs.Views.{list_of}
use Rattle.cell_emit.proofs.Newest.{ok-gives}
use Rattle.cell_emit.proofs.Casing.{gives-cared}
use Rattle.cell_emit.proofs.paths.cared.Goals as goal

pub returns-clause-gives : goal.returns-clause-gives
returns-clause-gives c =
    ok-gives c.binary.result _ _
    (λ r g. gives-cared c.args.all c.args.bits c.in_ok-mask.mask r c.args.width (list_of c.args.cells.now) (list_of c.constant.new.cells) (list_of c.binary.new.cells) c.requires.all c.in_ok-mask.ensures.gives g)
    c.binary.ensures.gives
