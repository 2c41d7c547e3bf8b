use Rattle.std.proofs.Common.{take}
use Rattle.std.specs.List.{list_any}
use Rattle.elab_kinds.specs.Names.{has, Adds}
use Rattle.elab_kinds.specs.Parts.{optional_ex_uses}
use Rattle.elab_kinds.proofs.items.add_connections.Given as goal

abbrev pub invariant-loop-q : goal.invariant-loop-q
invariant-loop-q l = Adds l.initial.names l.names (has l.hidden) (λ t. list_any (λ q. optional_ex_uses t q.value) (take l.q-index l.connections))
