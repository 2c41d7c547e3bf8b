use Rattle.std.proofs.Common.{◌≡◌, map, take}
use Rattle.std.specs.Prelude.{flat_map}
use Rattle.vl_design.specs.Stops.{earliest}
use Rattle.elab_plain.specs.vl_flat.specs.Parameters as q
use Rattle.elab_plain.specs.SeenItems.{seen_type, seen_parameter}
use Rattle.elab_instance.specs.Given.{overrides_of}
use Rattle.elab_constant.specs.Seen.{look}
use Rattle.vl_elab.proofs.faults.all_parameter_faults.Given as goal

abbrev pub invariant-loop-a : goal.invariant-loop-a
invariant-loop-a l = l.best ≡ earliest l.fn.best (flat_map (λ a. q.parameter_faults (look l.names) (seen_type l.kind) (overrides_of l.above a.name.name) a) (map seen_parameter (take l.a-index l.list)))
