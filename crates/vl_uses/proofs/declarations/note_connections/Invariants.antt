use Rattle.std.proofs.Common.{◌≡◌, take}
use Rattle.vl_scope.specs.Faults.{earliest}
use Rattle.vl_uses.specs.Nodes as n
use Rattle.vl_uses.specs.Walks as w
use Rattle.vl_uses.proofs.declarations.note_connections.Given as goal

abbrev pub invariant-loop-connection : goal.invariant-loop-connection
invariant-loop-connection l = l.best ≡ earliest l.initial.best (w.faults (w.means l.names) (n.connections_nodes l.setting (take l.connection-index l.connections)))
