use Rattle.elab_instance.proofs.Joins.{joined-empty}
use Rattle.elab_instance.proofs.connections.named.Goals as goal

pub loop-connection-init : goal.loop-connection-init
loop-connection-init c = joined-empty c.new-table.result c.new-table.ensures.empty
