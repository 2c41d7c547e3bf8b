use Rattle.std.proofs.Common.{ap, ◌∙◌, subst, ℕ, ◌%◌, ◌^◌}
use Rattle.cell_form.specs.Views.{list_of}
use Rattle.cell_emit.specs.Slots.{Gives, Nothing}
use Rattle.cell_emit.proofs.Newest.{ok-gives}
use Rattle.cell_emit.proofs.Repeating.{multiplied}
use Rattle.cell_emit.proofs.copies.multiply.Goals as goal

pub returns-clause-gives : goal.returns-clause-gives
returns-clause-gives c =
    let b = list_of c.args.cells.now in
    let l = list_of c.constant.new.cells in
    let F : ℕ → Type 0 = λ w. Gives Nothing 1 b l c.in_ok-factor.factor w (λ x. c.ones_apart-ones.result % 2 ^ w) in
    ok-gives c.binary.result _ _
    (λ r g. multiplied b l (list_of c.binary.new.cells) c.args.count c.args.own c.args.part c.ones_apart-ones.result c.in_ok-factor.factor r c.requires.there
    c.ones_apart-ones.ensures c.requires.own c.requires.fits (subst F c.width_of-width.ensures c.in_ok-factor.ensures.gives) g)
    c.binary.ensures.gives
