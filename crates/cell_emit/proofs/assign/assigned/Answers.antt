use Rattle.cell_form.specs.Views.{list_of}
use Rattle.cell_emit.proofs.Newest.{ok-gives}
use Rattle.cell_emit.specs.Paths.{low_of}
use Rattle.cell_emit.proofs.Assigning.{gives-assigned}
use Rattle.cell_emit.proofs.assign.assigned.Goals as goal

pub returns-then-is_whole-clause-gives : goal.returns-then-is_whole-clause-gives
returns-then-is_whole-clause-gives c =
    ok-gives c.whole.result _ _
    (λ r g. gives-assigned c.args.wide c.args.entry (low_of c.args.low) c.args.part c.args.off r (list_of c.args.cells.now) (list_of c.whole.new.cells)
    (c.is_whole.ensures.low c.if-is_whole.true) (c.is_whole.ensures.width c.if-is_whole.true) c.requires.part g)
    c.whole.ensures.gives
