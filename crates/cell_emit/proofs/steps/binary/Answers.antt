use Rattle.vl_base.specs.Value.{binary_width}
use Rattle.std.proofs.Common.{◌∙◌, ap}
use Rattle.cell_form.specs.Views.{list_of}
use Rattle.cell_emit.proofs.Newest.{ok-gives, gives-binary}
use Rattle.cell_emit.proofs.steps.binary.Goals as goal

pub returns-clause-gives : goal.returns-clause-gives
returns-clause-gives c =
    ok-gives c.push.result _ _
    (λ r p. gives-binary (list_of c.args.cells.now) (list_of c.push.new.cells) r c.args.op c.args.signed c.args.a c.args.b c.binary_result-width.result _ c.requires.first c.requires.second c.requires.wide c.requires.narrow c.requires.one_width (c.binary_result-width.ensures ∙ ap (binary_width c.args.op) c.width_of.ensures) p)
    c.push.ensures.pushed
