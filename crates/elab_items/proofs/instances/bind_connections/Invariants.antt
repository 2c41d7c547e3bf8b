use Rattle.std.proofs.Common.{◌≡◌, map, take}
use Rattle.elab_plain.specs.vl_flat.specs.Declarations.{connection}
use Rattle.elab_plain.specs.SeenItems.{seen_connection}
use Rattle.elab_items.proofs.instances.bind_connections.Given as goal

abbrev pub invariant-loop-a : goal.invariant-loop-a
invariant-loop-a l = map seen_connection l.all.items ≡ map connection (take l.a-index l.connections)
