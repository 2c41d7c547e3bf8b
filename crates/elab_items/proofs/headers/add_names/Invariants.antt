use Rattle.std.proofs.Common.{◌≡◌, ◌++◌, take}
use Rattle.elab_items.proofs.headers.add_names.Given as goal

abbrev pub invariant-loop-n : goal.invariant-loop-n
invariant-loop-n l = l.all.items ≡ l.initial.all.items ++ take l.n-index l.names
