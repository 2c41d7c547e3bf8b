use Rattle.std.proofs.Common.{◌≡◌, map, drop}
use Rattle.elab_plain.specs.SeenItems.{seen_connection}
use Rattle.elab_instance.specs.Tables as spec
use Rattle.elab_instance.proofs.connections.in_order.Given as goal

abbrev pub invariant-loop-place : goal.invariant-loop-place
invariant-loop-place l = spec.in_order_from (spec.joined l.table) (spec.nows (drop l.place l.names)) (map seen_connection (drop l.place l.list)) ≡ spec.in_order (spec.nows l.names) (map seen_connection l.list)
