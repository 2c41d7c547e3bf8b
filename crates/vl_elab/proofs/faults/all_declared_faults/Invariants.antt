use Rattle.std.proofs.Common.{◌≡◌, map, take}
use Rattle.std.specs.Prelude.{flat_map}
use Rattle.vl_design.specs.Stops.{earliest}
use Rattle.elab_plain.specs.vl_flat.specs.Processes as p
use Rattle.elab_plain.specs.SeenItems.{seen_type, seen_declared}
use Rattle.elab_constant.specs.Seen.{look}
use Rattle.vl_elab.proofs.faults.all_declared_faults.Given as goal

abbrev pub invariant-loop-d : goal.invariant-loop-d
invariant-loop-d l = l.best ≡ earliest l.fn.best (flat_map (p.declared_faults (look l.names)) (map (seen_declared (seen_type l.kind)) (take l.d-index l.ds)))
