use Rattle.elab_kinds.proofs.Adding.{has-insert}
use Rattle.elab_kinds.proofs.names.add.Goals as goal

pub returns : goal.returns
returns c = record { added = λ t. has-insert c.args.names.now c.insert.new.self c.args.name c.in_ok-insert.ensures.updates.0 t }
