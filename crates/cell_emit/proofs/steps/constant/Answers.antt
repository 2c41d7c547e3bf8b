use Rattle.cell_form.specs.Views.{list_of}
use Rattle.cell_emit.proofs.Newest.{ok-gives, gives-constant}
use Rattle.cell_emit.proofs.steps.constant.Goals as goal

pub returns-clause-gives : goal.returns-clause-gives
returns-clause-gives c =
    ok-gives c.push.result _ _
    (λ r p. gives-constant (list_of c.args.cells.now) (list_of c.push.new.cells) r c.args.value c.args.width _ c.requires.wide c.requires.narrow p)
    c.push.ensures.pushed
