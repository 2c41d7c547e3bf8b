use Rattle.std.proofs.Common.{◌≡◌, take}
use Rattle.std.specs.List.{flat_map}
use Rattle.vl_scope.specs.Faults.{earliest}
use Rattle.vl_uses.specs.Nodes as n
use Rattle.vl_uses.specs.Walks as w
use Rattle.vl_uses.proofs.statements.+note_lvalue.Given as goal

abbrev pub invariant-loop-part : goal.invariant-loop-part
invariant-loop-part l = l.best ≡ earliest l.initial.best (w.faults (w.means l.names) (flat_map (n.lvalue_nodes l.side l.setting) (take l.part-index l.part-items)))
