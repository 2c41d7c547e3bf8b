use Rattle.std.proofs.Common.{sym, ◌∙◌}
use Rattle.cell_form.specs.Views.{list_of}
use Rattle.cell_emit.specs.Slots.{width_at}
use Rattle.cell_emit.proofs.Newest.{ok-gives}
use Rattle.cell_emit.proofs.Repeating.{copied-bit, copied-twice, some-copies, two-copies}
use Rattle.cell_emit.proofs.copies.copies.Goals as goal

pub returns-then-width_of-eq1-clause-gives : goal.returns-then-width_of-eq1-clause-gives
returns-then-width_of-eq1-clause-gives c =
    let l = list_of c.args.cells.now in
    ok-gives c.resize.result _ _
    (λ r g. copied-bit l (list_of c.resize.new.cells) r c.args.count c.args.part c.requires.there (sym c.width_of.ensures ∙ c.if-width_of-eq1.true) c.if-count-eq1.false
    (some-copies c.args.count (width_at l c.args.part) c.requires.wide) g)
    c.resize.ensures.gives

pub returns-else-width_of-eq1-clause-gives : goal.returns-else-width_of-eq1-clause-gives
returns-else-width_of-eq1-clause-gives c =
    let l = list_of c.args.cells.now in
    ok-gives c.append.result _ _
    (λ r g. copied-twice l (list_of c.append.new.cells) r c.args.count c.args.part
    (two-copies c.args.count (width_at l c.args.part) c.if-count-eq1.false c.requires.wide c.requires.few (λ e. c.if-width_of-eq1.false (c.width_of.ensures ∙ e))) g)
    c.append.ensures.gives
