use Rattle.vl_base.specs.Value.{unary_width}
use Rattle.std.proofs.Common.{◌∙◌, ap}
use Rattle.cell_form.specs.Views.{list_of}
use Rattle.cell_emit.proofs.Newest.{ok-gives, gives-unary}
use Rattle.cell_emit.proofs.steps.unary.Goals as goal

pub returns-clause-gives : goal.returns-clause-gives
returns-clause-gives c =
    ok-gives c.push.result _ _
    (λ r p. gives-unary (list_of c.args.cells.now) (list_of c.push.new.cells) r c.args.op c.args.a c.unary_result-width.result _ c.requires.there c.requires.wide c.requires.narrow (c.unary_result-width.ensures ∙ ap (unary_width c.args.op) c.width_of.ensures) p)
    c.push.ensures.pushed
