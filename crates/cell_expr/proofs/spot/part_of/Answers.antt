use Rattle.std.proofs.Common.{arith, w32}
use Rattle.std.proofs.lemmas.Int.{to_z_pos}
use Rattle.cell_emit.specs.cell_form.specs.Views.{list_of}
use Rattle.cell_emit.proofs.Newest.{ok-gives}
use Rattle.cell_expr.proofs.Spotting.{part-slice}
use Rattle.cell_expr.proofs.spot.part_of.Goals as goal

pub returns-else-low-eq0-clause-gives : goal.returns-else-low-eq0-clause-gives
returns-else-low-eq0-clause-gives c =
    let low = c.requires.low in
    let narrow = c.requires.within in
    ok-gives c.slice.result _ _
    (λ r g. part-slice (list_of c.args.cells.now) (list_of c.slice.new.cells) r c.args.source c.args.low c.args.width _ (to_z_pos w32 c.args.low (omega (arith, low, narrow))) low g)
    c.slice.ensures.gives
