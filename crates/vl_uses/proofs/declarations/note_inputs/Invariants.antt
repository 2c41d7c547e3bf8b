use Rattle.std.proofs.Common.{◌≡◌, take}
use Rattle.vl_scope.specs.Faults.{earliest}
use Rattle.vl_uses.specs.Nodes as n
use Rattle.vl_uses.specs.Walks as w
use Rattle.vl_uses.proofs.declarations.note_inputs.Given as goal

abbrev pub invariant-loop-input : goal.invariant-loop-input
invariant-loop-input l = l.best ≡ earliest l.initial.best (w.faults (w.means l.names) (n.inputs_nodes l.setting (take l.input-index l.inputs)))
