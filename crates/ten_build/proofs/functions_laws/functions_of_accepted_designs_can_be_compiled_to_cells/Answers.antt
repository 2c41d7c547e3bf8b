use Rattle.ten_build.proofs.Whole.{all-cell-funs}
use Rattle.ten_build.proofs.functions_laws.functions_of_accepted_designs_can_be_compiled_to_cells.Goals as goal

pub returns : goal.returns
returns c = all-cell-funs
