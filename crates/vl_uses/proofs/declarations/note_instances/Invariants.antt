use Rattle.std.proofs.Common.{◌≡◌, take}
use Rattle.std.specs.List.{flat_map}
use Rattle.vl_scope.specs.Faults.{earliest}
use Rattle.vl_uses.specs.Nodes as n
use Rattle.vl_uses.specs.Walks as w
use Rattle.vl_uses.proofs.declarations.note_instances.Given as goal

abbrev pub invariant-loop-instance : goal.invariant-loop-instance
invariant-loop-instance l = l.best ≡ earliest l.initial.best (w.faults (w.means l.names) (flat_map (n.named_instance_nodes l.setting) (take l.instance-index l.instances)))
