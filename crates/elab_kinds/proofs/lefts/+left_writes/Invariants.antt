use Rattle.std.proofs.Common.{take}
use Rattle.std.specs.List.{list_any}
use Rattle.elab_kinds.specs.Names.{nothing, Adds}
use Rattle.elab_kinds.specs.Parts.{target_writes}
use Rattle.elab_kinds.proofs.lefts.+left_writes.Given as goal

abbrev pub invariant-add_part_writes-loop-l : goal.invariant-add_part_writes-loop-l
invariant-add_part_writes-loop-l l = Adds l.initial.names l.names nothing (λ t. list_any (target_writes t) (take l.l-index l.parts))
