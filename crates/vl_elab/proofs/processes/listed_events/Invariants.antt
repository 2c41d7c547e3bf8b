use Rattle.std.proofs.Common.{◌≡◌, map, take}
use Rattle.elab_plain.specs.vl_flat.specs.Processes as p
use Rattle.elab_constant.specs.Seen.{look}
use Rattle.vl_elab.proofs.processes.listed_events.Given as goal

abbrev pub invariant-loop-e : goal.invariant-loop-e
invariant-loop-e l = l.all.items ≡ map (p.event (look l.names)) (take l.e-index l.es)
