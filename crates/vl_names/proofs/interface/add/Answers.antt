use Rattle.vl_names.proofs.Steps.{has-insert}
use Rattle.vl_names.proofs.interface.add.Goals as goal

pub returns : goal.returns
returns c = has-insert c.args.known.now c.insert.new.self c.args.name.now 0 c.in_ok-insert.ensures.updates
