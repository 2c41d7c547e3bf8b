use Rattle.std.proofs.Common.{◌<◌, [], length, map, ap, arith}
use Rattle.elab_plain.specs.SeenItems.{seen_connection}
use Rattle.elab_instance.specs.Tables.{joined, in_order, in_order_from, nows}
use Rattle.elab_instance.proofs.Joins.{joined-empty, in_order-turn}
use Rattle.elab_instance.proofs.connections.in_order.Goals as goal

pub loop-place-init : goal.loop-place-init
loop-place-init c = ap (λ t. in_order_from t (nows c.args.names.now) (map seen_connection c.args.list.now)) (joined-empty c.new-table.result c.new-table.ensures.empty)

pub loop-place-preserved : goal.loop-place-preserved
loop-place-preserved c =
    let below : c.loop-place.place < length c.args.names.now = omega arith in
    in_order-turn (joined c.loop-place.table) (joined c.connect_if.new.table) (in_order (nows c.args.names.now) (map seen_connection c.args.list.now)) c.args.names.now c.args.list.now c.loop-place.place
    (record { ref_ptr = (0, 0); now = [] }) c.get.result below c.get.ensures.lookup.0 c.get.ensures.lookup.1 c.in_ok-connect_if.ensures c.loop-place.invariant
