use Rattle.std.proofs.Common.{◌≡◌, map, take}
use Rattle.std.specs.Prelude.{flat_map}
use Rattle.vl_design.specs.Stops.{earliest}
use Rattle.elab_plain.specs.vl_flat.specs.Processes.{optional_faults}
use Rattle.elab_plain.specs.SeenItems.{seen_connection}
use Rattle.elab_constant.specs.Seen.{look}
use Rattle.vl_elab.proofs.faults.override_faults.Given as goal

abbrev pub invariant-loop-connection : goal.invariant-loop-connection
invariant-loop-connection l = l.best ≡ earliest l.fn.best (flat_map (λ q. optional_faults (look l.names) q.value) (map seen_connection (take l.connection-index l.list)))
