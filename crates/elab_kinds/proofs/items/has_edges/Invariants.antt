use Rattle.std.proofs.Common.{◌≡◌, false, is_some, take}
use Rattle.std.specs.List.{list_any}
use Rattle.elab_plain.specs.vl_tree.specs.declared.source_tree.Event.{Event}
use Rattle.elab_kinds.proofs.items.has_edges.Given as goal

abbrev pub invariant-loop-e : goal.invariant-loop-e
invariant-loop-e l = list_any (λ (e : Event). is_some e.edge) (take l.e-index l.events) ≡ false
