use Rattle.cell_form.specs.Views.{list_of}
use Rattle.cell_emit.proofs.Newest.{ok-gives}
use Rattle.cell_emit.proofs.Placing.{distant-by, few-cells}
use Rattle.cell_emit.proofs.assign.distant.Goals as goal

pub returns-clause-distant : goal.returns-clause-distant
returns-clause-distant c = ok-gives c.resize.result _ _ (λ r g. distant-by _ c.args.off r (list_of c.args.cells.now) (list_of c.resize.new.cells) (few-cells _) c.requires.off g) c.resize.ensures.gives
