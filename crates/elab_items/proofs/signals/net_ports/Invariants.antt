use Rattle.std.proofs.Common.{◌≡◌, map, take, Some}
use Rattle.elab_plain.specs.vl_flat.specs.Items as x
use Rattle.elab_plain.specs.vl_flat.specs.Declarations as f
use Rattle.elab_plain.specs.SeenItems.{seen_declared}
use Rattle.elab_items.proofs.signals.net_ports.Given as goal

abbrev pub invariant-loop-n : goal.invariant-loop-n
invariant-loop-n l = (type : x.DataType) → map (seen_declared type) l.all.items ≡ map (f.net (Some l.direction) type) (take l.n-index l.names)
