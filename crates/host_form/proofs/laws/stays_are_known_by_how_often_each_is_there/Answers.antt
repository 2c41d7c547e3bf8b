use Rattle.host_form.proofs.Times.{visits-by-times}
use Rattle.host_form.proofs.laws.stays_are_known_by_how_often_each_is_there.Goals as goal

pub returns : goal.returns
returns c = visits-by-times
