use Rattle.std.proofs.Common.{◌≡◌, map, drop}
use Rattle.elab_plain.specs.vl_flat.specs.Surface as x
use Rattle.vl_design.specs.Stops.{earliest}
use Rattle.elab_plain.specs.vl_flat.specs.ExpressionFaults.{all_faults, selects_faults, args_faults}
use Rattle.elab_plain.specs.Seen.{seen, selects_before, args_before}
use Rattle.elab_plain.specs.Listed.{of_list}
use Rattle.elab_constant.specs.Seen.{seen_scope}
use Rattle.elab_faults.proofs.faults.+faults.Given as goal

abbrev pub invariant-all_faults-loop-e : goal.invariant-all_faults-loop-e
invariant-all_faults-loop-e l =
    earliest l.all (all_faults (seen_scope l.scope) (of_list (map seen (drop l.e-index l.es)))) ≡ earliest l.initial.all (all_faults (seen_scope l.scope) (of_list (map seen l.es)))

abbrev pub invariant-selects_faults-loop-one : goal.invariant-selects_faults-loop-one
invariant-selects_faults-loop-one l =
    earliest l.all (selects_faults (seen_scope l.scope) (selects_before (drop l.one-index l.selects) x.NoSelects)) ≡ earliest l.initial.all (selects_faults (seen_scope l.scope) (selects_before l.selects x.NoSelects))

abbrev pub invariant-args_faults-loop-a : goal.invariant-args_faults-loop-a
invariant-args_faults-loop-a l =
    earliest l.all (args_faults (seen_scope l.scope) l.keeps (args_before (drop l.a-index l.given) x.NoArgs)) ≡ earliest l.initial.all (args_faults (seen_scope l.scope) l.keeps (args_before l.given x.NoArgs))
