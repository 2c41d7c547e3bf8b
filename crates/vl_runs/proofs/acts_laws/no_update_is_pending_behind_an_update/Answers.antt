use Rattle.vl_runs.proofs.Emptied.{none_later}
use Rattle.vl_runs.proofs.acts_laws.no_update_is_pending_behind_an_update.Goals as goal

pub returns : goal.returns
returns c = λ o order n q k u ord fine a ph. none_later o k u order ord fine q a ph
