use Rattle.elab_kinds.proofs.Adding.{has-insert}
use Rattle.elab_kinds.proofs.strays.hide.Goals as goal

pub returns-clause-hidden : goal.returns-clause-hidden
returns-clause-hidden c = record { added = λ t. has-insert c.args.hidden.now c.insert.new.self c.args.name c.in_ok-is_new.ensures.updates.0 t }
