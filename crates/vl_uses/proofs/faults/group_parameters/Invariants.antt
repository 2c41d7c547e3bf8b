use Rattle.std.proofs.Common.{◌≡◌, take}
use Rattle.vl_uses.specs.Nodes as n
use Rattle.vl_uses.proofs.faults.group_parameters.Given as goal

abbrev pub invariant-loop-group : goal.invariant-loop-group
invariant-loop-group l = l.count ≡ n.group_parameters (take l.group-index l.groups)
