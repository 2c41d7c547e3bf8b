use Rattle.std.proofs.Common.{◌≡◌, ◌++◌, map, take}
use Rattle.elab_plain.specs.SeenItems.{declared_name}
use Rattle.elab_items.proofs.headers.add_declared.Given as goal

abbrev pub invariant-loop-a : goal.invariant-loop-a
invariant-loop-a l = l.all.items ≡ l.initial.all.items ++ map declared_name (take l.a-index l.declared)
