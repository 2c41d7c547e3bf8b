use Rattle.std.proofs.Common.{take}
use Rattle.std.specs.List.{list_any}
use Rattle.elab_kinds.specs.Names.{nothing, Adds}
use Rattle.elab_kinds.specs.Parts.{writes_in, case_writes}
use Rattle.elab_kinds.proofs.writes.+writes.Given as goal

abbrev pub invariant-add_all_writes-loop-a : goal.invariant-add_all_writes-loop-a
invariant-add_all_writes-loop-a l = Adds l.initial.names l.names nothing (λ t. list_any (writes_in t) (take l.a-index l.parts))

abbrev pub invariant-add_case_writes-loop-one : goal.invariant-add_case_writes-loop-one
invariant-add_case_writes-loop-one l = Adds l.initial.names l.names nothing (λ t. list_any (case_writes t) (take l.one-index l.items))
