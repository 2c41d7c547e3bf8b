use Rattle.std.proofs.Common.{◌≡◌, ◌++◌, map, take}
use Rattle.elab_plain.specs.vl_flat.specs.Items as x
use Rattle.elab_plain.specs.vl_flat.specs.Processes as p
use Rattle.vl_design.specs.Seen.{process_of}
use Rattle.elab_plain.specs.SeenItems.{seen_declared}
use Rattle.vl_elab.specs.Standing.{seen_here}
use Rattle.vl_elab.proofs.processes.add_values.Given as goal

abbrev pub invariant-loop-d : goal.invariant-loop-d
invariant-loop-d l = (type : x.DataType) → map process_of l.all.items ≡ map process_of l.initial.all.items ++ p.values (seen_here l.here) (map (seen_declared type) (take l.d-index l.ds))
