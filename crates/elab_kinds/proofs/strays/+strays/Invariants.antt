use Rattle.std.proofs.Common.{◌≡◌, take}
use Rattle.std.specs.List.{list_any}
use Rattle.elab_kinds.specs.Names.{has, Adds}
use Rattle.elab_kinds.specs.Parts.{strays_in, case_strays}
use Rattle.elab_kinds.proofs.strays.+strays.Given as goal

abbrev pub invariant-add_all_strays-loop-a : goal.invariant-add_all_strays-loop-a
invariant-add_all_strays-loop-a l = record {
  names : Adds l.initial.names l.names (has l.initial.hidden) (λ t. list_any (strays_in t) (take l.a-index l.parts));
  hidden : has l.hidden ≡ has l.initial.hidden;
}

abbrev pub invariant-add_case_strays-loop-one : goal.invariant-add_case_strays-loop-one
invariant-add_case_strays-loop-one l = record {
  names : Adds l.initial.names l.names (has l.initial.hidden) (λ t. list_any (case_strays t) (take l.one-index l.items));
  hidden : has l.hidden ≡ has l.initial.hidden;
}
