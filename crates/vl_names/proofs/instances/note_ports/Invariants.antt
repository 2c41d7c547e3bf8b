use Rattle.std.proofs.Common.{◌≡◌, flat_map, take}
use Rattle.vl_scope.specs.Faults.{earliest}
use Rattle.vl_names.specs.Seen as seen
use Rattle.vl_names.proofs.instances.note_ports.Given as goal

abbrev pub invariant-loop-instance : goal.invariant-loop-instance
invariant-loop-instance l = l.best ≡ earliest l.initial.best (flat_map (λ n. seen.faults_to l.ports n.connections) (take l.instance-index l.instances))
