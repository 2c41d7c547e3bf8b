use Rattle.std.proofs.Common.{◌<◌, [], length, arith}
use Rattle.elab_instance.specs.Tables.{joined, none, take_over}
use Rattle.elab_instance.proofs.Joins.{joined-empty}
use Rattle.elab_instance.proofs.Turns.{fold-turn-at}
use Rattle.elab_instance.proofs.connections.chosen.Goals as goal

pub loop-name-init : goal.loop-name-init
loop-name-init c = joined-empty c.new-table.result c.new-table.ensures.empty

pub loop-name-preserved : goal.loop-name-preserved
loop-name-preserved c =
    let below : c.loop-name.name-index < length c.args.names.now = omega arith in
    fold-turn-at (take_over (joined c.args.given.now)) (λ r. r.now) none (joined c.loop-name.table) (joined c.take_over.new.table) c.args.names.now c.loop-name.name-index
    (record { ref_ptr = (0, 0); now = [] }) below c.loop-name.invariant c.in_ok-take_over.ensures
