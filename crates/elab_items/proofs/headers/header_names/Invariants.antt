use Rattle.std.proofs.Common.{◌≡◌, take}
use Rattle.std.specs.Prelude.{flat_map}
use Rattle.elab_plain.specs.SeenItems.{group_parameters}
use Rattle.elab_items.proofs.headers.header_names.Given as goal

abbrev pub invariant-loop-a : goal.invariant-loop-a
invariant-loop-a l = l.all.items ≡ flat_map group_parameters (take l.a-index l.groups)
