use Rattle.snap_form.proofs.Whole.{read_again}
use Rattle.snap_form.proofs.laws.spelling_is_read_back.Goals as goal

pub returns : goal.returns
returns c = read_again
