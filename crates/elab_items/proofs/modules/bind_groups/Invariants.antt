use Rattle.std.proofs.Common.{◌≡◌, map, take}
use Rattle.elab_plain.specs.vl_flat.specs.Declarations.{header_parameters}
use Rattle.elab_plain.specs.SeenItems.{seen_item}
use Rattle.elab_items.proofs.modules.bind_groups.Given as goal

abbrev pub invariant-loop-a : goal.invariant-loop-a
invariant-loop-a l = map seen_item l.all.items ≡ map header_parameters (take l.a-index l.groups)
