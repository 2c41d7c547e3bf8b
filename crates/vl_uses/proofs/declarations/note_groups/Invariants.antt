use Rattle.std.proofs.Common.{◌≡◌, drop, take}
use Rattle.vl_scope.specs.Faults.{earliest}
use Rattle.vl_uses.specs.Settings.{later}
use Rattle.vl_uses.specs.Nodes as n
use Rattle.vl_uses.specs.Walks as w
use Rattle.vl_uses.proofs.declarations.note_groups.Given as goal

-- so many parameters are passed, and with the rest the faults are the whole's
abbrev pub invariant-loop-group : goal.invariant-loop-group
invariant-loop-group l = record {
  known : l.setting ≡ later l.initial.setting (n.group_parameters (take l.group-index l.groups));
  rest : earliest l.best (w.faults (w.means l.names) (n.group_nodes l.setting (drop l.group-index l.groups))) ≡ earliest l.initial.best (w.faults (w.means l.names) (n.group_nodes l.initial.setting l.groups));
}
