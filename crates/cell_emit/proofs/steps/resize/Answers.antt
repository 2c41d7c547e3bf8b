use Rattle.std.proofs.Common.{sym, ◌∙◌}
use Rattle.cell_form.specs.Views.{list_of}
use Rattle.cell_emit.proofs.Newest.{ok-gives, gives-resized, own-gives, other-gives}
use Rattle.cell_emit.proofs.steps.resize.Goals as goal

pub returns-then-width_of-width-clause-gives : goal.returns-then-width_of-width-clause-gives
returns-then-width_of-width-clause-gives c =
    own-gives (list_of c.args.cells.now) c.args.a c.args.signed c.args.width c.requires.there (sym c.width_of.ensures ∙ c.if-width_of-width.true)

pub returns-clause-gives : goal.returns-clause-gives
returns-clause-gives c =
    ok-gives c.push.result _ _
    (λ r p. other-gives (list_of c.args.cells.now) (list_of c.push.new.cells) r c.args.a c.args.signed c.args.width
    (λ e. c.if-width_of-width.false (c.width_of.ensures ∙ e)) (gives-resized (list_of c.args.cells.now) (list_of c.push.new.cells) r c.args.a c.args.signed c.args.width _ c.requires.there c.requires.wide c.requires.narrow p))
    c.push.ensures.pushed
