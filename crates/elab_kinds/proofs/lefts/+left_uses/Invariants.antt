use Rattle.std.proofs.Common.{take}
use Rattle.std.specs.List.{list_any}
use Rattle.elab_kinds.specs.Names.{has, Adds}
use Rattle.elab_kinds.specs.Parts.{target_uses}
use Rattle.elab_kinds.proofs.lefts.+left_uses.Given as goal

abbrev pub invariant-add_part_uses-loop-l : goal.invariant-add_part_uses-loop-l
invariant-add_part_uses-loop-l l = Adds l.initial.names l.names (has l.hidden) (λ t. list_any (target_uses t) (take l.l-index l.parts))
