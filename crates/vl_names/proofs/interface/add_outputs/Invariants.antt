use Rattle.std.proofs.Common.{◌≡◌, ◌++◌, map, take}
use Rattle.vl_names.specs.Seen as seen
use Rattle.vl_names.proofs.interface.add_outputs.Given as goal

abbrev pub invariant-loop-output : goal.invariant-loop-output
invariant-loop-output l = seen.nows l.names.items ≡ seen.nows l.initial.names.items ++ map (λ a. a.name) (take l.output-index l.more)
