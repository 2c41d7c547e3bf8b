use Rattle.std.proofs.Common.{◌≡◌, map, take}
use Rattle.std.specs.Prelude.{flat_map}
use Rattle.elab_plain.specs.vl_flat.specs.Ranges.{type_faults}
use Rattle.vl_design.specs.Stops.{earliest}
use Rattle.elab_constant.specs.Seen.{look}
use Rattle.elab_instance.specs.Variables.{seen_variable}
use Rattle.vl_elab.proofs.functions.variables_faults.Given as goal

abbrev pub invariant-loop-variable : goal.invariant-loop-variable
invariant-loop-variable l = l.best ≡ earliest l.fn.best (flat_map (λ v. type_faults (look l.names) v.type v.name.place) (map seen_variable (take l.variable-index l.variables)))
