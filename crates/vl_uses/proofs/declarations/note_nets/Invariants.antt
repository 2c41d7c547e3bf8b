use Rattle.std.proofs.Common.{◌≡◌, take}
use Rattle.vl_scope.specs.Faults.{earliest}
use Rattle.vl_uses.specs.Nodes as n
use Rattle.vl_uses.specs.Walks as w
use Rattle.vl_uses.proofs.declarations.note_nets.Given as goal

abbrev pub invariant-loop-net : goal.invariant-loop-net
invariant-loop-net l = l.best ≡ earliest l.initial.best (w.faults (w.means l.names) (n.nets_nodes l.setting (take l.net-index l.nets)))
