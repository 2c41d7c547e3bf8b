use Rattle.std.proofs.Common.{◌≡◌, map, take}
use Rattle.std.specs.Prelude.{flat_map}
use Rattle.vl_design.specs.Stops.{earliest}
use Rattle.elab_plain.specs.vl_flat.specs.Processes as p
use Rattle.elab_plain.specs.SeenItems.{seen_setting}
use Rattle.elab_constant.specs.Seen.{look}
use Rattle.vl_elab.proofs.faults.all_assignment_faults.Given as goal

abbrev pub invariant-loop-a : goal.invariant-loop-a
invariant-loop-a l = l.best ≡ earliest l.fn.best (flat_map (p.assignment_faults (look l.names)) (map seen_setting (take l.a-index l.list)))
