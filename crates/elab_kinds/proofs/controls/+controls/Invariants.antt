use Rattle.std.proofs.Common.{take}
use Rattle.std.specs.List.{list_any}
use Rattle.elab_kinds.specs.Names.{has, Adds}
use Rattle.elab_kinds.specs.Parts.{controls_in, case_controls}
use Rattle.elab_kinds.proofs.controls.+controls.Given as goal

abbrev pub invariant-add_all_controls-loop-a : goal.invariant-add_all_controls-loop-a
invariant-add_all_controls-loop-a l = Adds l.initial.names l.names (has l.hidden) (λ t. list_any (controls_in t) (take l.a-index l.parts))

abbrev pub invariant-add_case_controls-loop-one : goal.invariant-add_case_controls-loop-one
invariant-add_case_controls-loop-one l = Adds l.initial.names l.names (has l.hidden) (λ t. list_any (case_controls t) (take l.one-index l.items))
