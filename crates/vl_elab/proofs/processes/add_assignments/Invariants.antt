use Rattle.std.proofs.Common.{◌≡◌, ◌++◌, map, take}
use Rattle.elab_plain.specs.vl_flat.specs.Processes as p
use Rattle.vl_design.specs.Seen.{process_of}
use Rattle.elab_plain.specs.SeenItems.{seen_setting}
use Rattle.vl_elab.specs.Standing.{seen_here}
use Rattle.vl_elab.proofs.processes.add_assignments.Given as goal

abbrev pub invariant-loop-a : goal.invariant-loop-a
invariant-loop-a l = map process_of l.all.items ≡ map process_of l.initial.all.items ++ map (p.assignment (seen_here l.here)) (map seen_setting (take l.a-index l.list))
