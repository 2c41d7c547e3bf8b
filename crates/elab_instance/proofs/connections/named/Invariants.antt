use Rattle.std.proofs.Common.{◌≡◌, map, take}
use Rattle.std.specs.Prelude.{fold}
use Rattle.elab_plain.specs.SeenItems.{seen_connection}
use Rattle.elab_instance.specs.Tables as spec
use Rattle.elab_instance.proofs.connections.named.Given as goal

abbrev pub invariant-loop-connection : goal.invariant-loop-connection
invariant-loop-connection l = spec.joined l.table ≡ fold spec.connect_named spec.none (map seen_connection (take l.connection-index l.list))
