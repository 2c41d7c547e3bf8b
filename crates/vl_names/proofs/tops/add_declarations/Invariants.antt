use Rattle.std.proofs.Common.{◌≡◌, ◌++◌, take}
use Rattle.vl_names.specs.Seen as seen
use Rattle.vl_names.proofs.tops.add_declarations.Given as goal

abbrev pub invariant-loop-declaration : goal.invariant-loop-declaration
invariant-loop-declaration l = seen.nows l.all.items ≡ seen.nows l.initial.all.items ++ take l.declaration-index l.more
