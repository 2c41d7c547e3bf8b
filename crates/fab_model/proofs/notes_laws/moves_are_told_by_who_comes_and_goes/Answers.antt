use Rattle.fab_model.proofs.Passing.{moves_told}
use Rattle.fab_model.proofs.notes_laws.moves_are_told_by_who_comes_and_goes.Goals as goal

pub returns : goal.returns
returns c = λ g t j. moves_told t j g
