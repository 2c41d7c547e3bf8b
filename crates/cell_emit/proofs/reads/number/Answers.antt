use Rattle.std.proofs.Common.{◌%◌, ◌^◌, refl, ap, ◌∙◌}
use Rattle.cell_form.specs.Views.{list_of}
use Rattle.cell_emit.specs.Slots.{Nothing}
use Rattle.cell_emit.proofs.Frames.{gives-as}
use Rattle.cell_emit.proofs.Newest.{ok-gives}
use Rattle.cell_emit.proofs.Behind.{resized-small}
use Rattle.cell_emit.proofs.reads.number.Goals as goal

pub returns-clause-gives : goal.returns-clause-gives
returns-clause-gives c =
    ok-gives c.constant.result _ _
    (λ r g. gives-as Nothing 1 (list_of c.args.cells.now) (list_of c.constant.new.cells) r c.args.width c.args.width _ _ refl
    (λ s b sound. ap (λ n. n % 2 ^ c.args.width) c.resize-number.ensures.value ∙ resized-small c.args.signed c.args.own c.args.width c.args.value) g)
    c.constant.ensures.gives
