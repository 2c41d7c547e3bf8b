use Rattle.std.proofs.Common.{◌≡◌, ◌++◌, map, take}
use Rattle.elab_plain.specs.SeenItems.{port_item, seen_item}
use Rattle.elab_items.proofs.modules.add_ports.Given as goal

abbrev pub invariant-loop-a : goal.invariant-loop-a
invariant-loop-a l = map seen_item l.all.items ≡ map seen_item l.initial.all.items ++ map port_item (take l.a-index l.ports)
