use Rattle.std.proofs.Common.{◌≡◌, map, take}
use Rattle.elab_instance.specs.Tables as spec
use Rattle.elab_instance.proofs.connections.spelled.Given as goal

abbrev pub invariant-loop-name : goal.invariant-loop-name
invariant-loop-name l = spec.nows l.all.items ≡ map (λ n. n.name) (take l.name-index l.names)
