use Rattle.std.proofs.Common.{take}
use Rattle.std.specs.List.{list_any}
use Rattle.elab_kinds.specs.Names.{has, Adds}
use Rattle.elab_kinds.specs.Parts.{optional_ex_uses}
use Rattle.elab_kinds.proofs.items.add_values.Given as goal

abbrev pub invariant-loop-d : goal.invariant-loop-d
invariant-loop-d l = Adds l.initial.names l.names (has l.hidden) (λ t. list_any (λ d. optional_ex_uses t d.value) (take l.d-index l.ds))
