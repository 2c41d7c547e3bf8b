use Rattle.std.proofs.Common.{◌≡◌, map, take}
use Rattle.elab_plain.specs.vl_flat.specs.Declarations.{parameter}
use Rattle.elab_plain.specs.SeenItems.{seen_parameter}
use Rattle.elab_items.proofs.parameters.bind_each.Given as goal

abbrev pub invariant-loop-a : goal.invariant-loop-a
invariant-loop-a l = map seen_parameter l.all.items ≡ map parameter (take l.a-index l.assignments)
