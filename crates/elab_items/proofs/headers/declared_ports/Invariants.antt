use Rattle.std.proofs.Common.{◌≡◌, take}
use Rattle.std.specs.Prelude.{flat_map}
use Rattle.vl_tree.specs.Hierarchy.{declared_names}
use Rattle.elab_items.proofs.headers.declared_ports.Given as goal

abbrev pub invariant-loop-a : goal.invariant-loop-a
invariant-loop-a l = l.all.items ≡ flat_map declared_names (take l.a-index l.ports)
