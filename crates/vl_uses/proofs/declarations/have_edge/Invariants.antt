use Rattle.std.proofs.Common.{◌≡◌, false, is_some, take}
use Rattle.std.specs.List.{list_any}
use Rattle.vl_tree.specs.declared.source_tree.Event.{Event}
use Rattle.vl_uses.proofs.declarations.have_edge.Given as goal

abbrev pub invariant-loop-event : goal.invariant-loop-event
invariant-loop-event l = list_any (λ (a : Event). is_some a.edge) (take l.event-index l.events) ≡ false
