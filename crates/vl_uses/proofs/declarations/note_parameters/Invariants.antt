use Rattle.std.proofs.Common.{◌≡◌, drop}
use Rattle.vl_scope.specs.Faults.{earliest}
use Rattle.vl_uses.specs.Settings.{later}
use Rattle.vl_uses.specs.Nodes as n
use Rattle.vl_uses.specs.Walks as w
use Rattle.vl_uses.proofs.declarations.note_parameters.Given as goal

-- so many parameters are passed, and with the rest the faults are the whole's
abbrev pub invariant-loop-assignment : goal.invariant-loop-assignment
invariant-loop-assignment l = record {
  known : l.setting ≡ later l.initial.setting l.assignment-index;
  rest : earliest l.best (w.faults (w.means l.names) (n.parameter_nodes l.setting (drop l.assignment-index l.assignments))) ≡ earliest l.initial.best (w.faults (w.means l.names) (n.parameter_nodes l.initial.setting l.assignments));
}
