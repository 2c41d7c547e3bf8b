use Rattle.std.proofs.Common.{◌≡◌, map, take}
use Rattle.elab_plain.specs.vl_flat.specs.Declarations.{named_instance}
use Rattle.elab_plain.specs.SeenItems.{seen_unit}
use Rattle.elab_items.proofs.instances.bind_units.Given as goal

abbrev pub invariant-loop-a : goal.invariant-loop-a
invariant-loop-a l = map seen_unit l.all.items ≡ map named_instance (take l.a-index l.units)
