use Rattle.std.proofs.Common.{◌≡◌, ◌++◌, take}
use Rattle.vl_names.specs.Seen as seen
use Rattle.vl_names.proofs.interface.add_names.Given as goal

abbrev pub invariant-loop-name : goal.invariant-loop-name
invariant-loop-name l = seen.nows l.names.items ≡ seen.nows l.initial.names.items ++ take l.name-index l.more
