use Rattle.cell_form.specs.Views.{list_of}
use Rattle.cell_emit.specs.Slots.{Nothing}
use Rattle.cell_emit.proofs.Frames.{met-nothing}
use Rattle.cell_emit.proofs.Newest.{ok-gives}
use Rattle.cell_emit.proofs.Behind.{resized-behind}
use Rattle.cell_emit.proofs.operators.choose.Goals as goal

pub returns-clause-gives : goal.returns-clause-gives
returns-clause-gives c =
    ok-gives c.resize.result _ _
    (λ r g. resized-behind Nothing 1 (list_of c.args.cells.now) (list_of c.mux.new.cells) (list_of c.resize.new.cells) c.in_ok-value.value r _ c.args.width c.args.signed _ met-nothing
    c.in_ok-value.ensures.gives g)
    c.resize.ensures.gives
