use Rattle.host_outcomes.proofs.Seen.{sees}
use Rattle.host_outcomes.proofs.laws.orders_are_seen.Goals as goal

pub returns : goal.returns
returns c = λ labels starts orders out refused a b h k n d lt kl kn. sees labels starts orders out refused a b h k n d lt kl kn
