use Rattle.std.proofs.Common.{◌≡◌, ◌++◌, map, drop}
use Rattle.elab_plain.specs.vl_flat.specs.Items as x
use Rattle.elab_plain.specs.vl_flat.specs.Processes as p
use Rattle.elab_plain.specs.SeenItems.{seen_declared}
use Rattle.vl_elab.specs.Standing.{seen_here}
use Rattle.vl_elab.proofs.signals.signals_of.Given as goal

abbrev pub invariant-loop-d : goal.invariant-loop-d
invariant-loop-d l = (type : x.DataType) →
    l.all.items ++ p.signals (seen_here l.here) l.number (map (seen_declared type) (drop l.d-index l.ds))
    ≡ p.signals (seen_here l.here) l.next (map (seen_declared type) l.ds)
