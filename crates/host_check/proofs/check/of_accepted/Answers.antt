use Rattle.host_check.proofs.Sources.{accepted-all}
use Rattle.host_check.proofs.check.of_accepted.Goals as goal

pub returns : goal.returns
returns c = accepted-all c.accepted.result c.args.design.now c.in_ok-cost.cost c.in_ok-cost.ensures c.accepted.ensures.status c.accepted.ensures.text
