use Rattle.host_form.proofs.Ends.{within-budget}
use Rattle.host_form.proofs.laws.ticks_stay_within_the_budget.Goals as goal

pub returns : goal.returns
returns c = λ fabrics histories answers n t r h. within-budget fabrics histories answers n t r h
