use Rattle.cell_form.specs.Views.{list_of}
use Rattle.cell_emit.proofs.Newest.{ok-gives, gives-mux}
use Rattle.cell_emit.proofs.steps.mux.Goals as goal

pub returns-clause-gives : goal.returns-clause-gives
returns-clause-gives c =
    ok-gives c.push.result _ _
    (λ r p. gives-mux (list_of c.args.cells.now) (list_of c.push.new.cells) r c.args.test c.args.a c.args.b c.width_of-width.result _ c.requires.test c.requires.first c.requires.second c.requires.wide c.requires.narrow c.requires.one_width c.width_of-width.ensures p)
    c.push.ensures.pushed
