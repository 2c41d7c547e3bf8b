use Rattle.std.proofs.Common.{◌≡◌, take, map}
use Rattle.vl_scope.specs.Faults.{earliest}
use Rattle.vl_uses.specs.Nodes as n
use Rattle.vl_uses.specs.Walks as w
use Rattle.vl_uses.proofs.declarations.note_trigger.Given as goal

abbrev pub invariant-loop-event : goal.invariant-loop-event
invariant-loop-event l = l.best ≡ earliest l.initial.best (w.faults (w.means l.names) (map (λ a. n.node l.setting (n.event a.name)) (take l.event-index l.event-items)))
