use Rattle.std.proofs.Common.{◌≡◌, ◌++◌, take}
use Rattle.vl_tree.specs.Hierarchy.{assigned}
use Rattle.elab_items.proofs.headers.add_assigned.Given as goal

abbrev pub invariant-loop-a : goal.invariant-loop-a
invariant-loop-a l = l.all.items ≡ l.initial.all.items ++ assigned (take l.a-index l.assignments)
