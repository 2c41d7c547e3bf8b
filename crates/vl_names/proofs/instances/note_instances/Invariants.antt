use Rattle.std.proofs.Common.{◌≡◌, flat_map, take}
use Rattle.vl_scope.specs.Faults.{earliest}
use Rattle.vl_names.specs.Seen as seen
use Rattle.vl_names.proofs.instances.note_instances.Given as goal

abbrev pub invariant-loop-instance : goal.invariant-loop-instance
invariant-loop-instance l = l.best ≡ earliest l.initial.best (flat_map (seen.faults_in (seen.look l.numbers) l.interfaces) (seen.nows (take l.instance-index l.instances)))
