use Rattle.host_form.proofs.Times.{visits-once}
use Rattle.host_form.proofs.laws.stays_are_listed_in_one_way.Goals as goal

pub returns : goal.returns
returns c = λ histories tenant from to vs ws a b. visits-once histories tenant from to from to vs ws a b
