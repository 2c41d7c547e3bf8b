use Rattle.std.proofs.Common.{refl}
use Rattle.elab_constant.proofs.Tables.{look-insert}
use Rattle.elab_constant.proofs.scope.bind.Goals as goal

pub returns : goal.returns
returns c = look-insert c.args.names.now c.insert.new.self c.args.name.now c.args.name.now c.args.known refl c.in_ok-insert.ensures.updates
