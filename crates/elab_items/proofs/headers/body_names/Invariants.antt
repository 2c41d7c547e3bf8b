use Rattle.std.proofs.Common.{◌≡◌, take}
use Rattle.std.specs.Prelude.{flat_map}
use Rattle.vl_tree.specs.Hierarchy.{item_parameters}
use Rattle.elab_items.proofs.headers.body_names.Given as goal

abbrev pub invariant-loop-a : goal.invariant-loop-a
invariant-loop-a l = l.all.items ≡ flat_map item_parameters (take l.a-index l.items)
