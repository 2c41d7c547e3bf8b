use Rattle.std.proofs.Common.{◌≡◌, map, take}
use Rattle.elab_plain.specs.vl_flat.specs.Items as x
use Rattle.elab_plain.specs.vl_flat.specs.Declarations as f
use Rattle.elab_plain.specs.SeenItems.{seen_declared}
use Rattle.elab_items.proofs.signals.output_variables.Given as goal

abbrev pub invariant-loop-a : goal.invariant-loop-a
invariant-loop-a l = (type : x.DataType) → map (seen_declared type) l.all.items ≡ map (f.output_variable type) (take l.a-index l.declared)
