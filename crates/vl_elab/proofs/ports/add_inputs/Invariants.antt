use Rattle.std.proofs.Common.{take}
use Rattle.std.specs.Prelude.{flat_map}
use Rattle.elab_plain.specs.vl_flat.specs.Items as x
use Rattle.elab_plain.specs.vl_flat.specs.Flat as f
use Rattle.elab_plain.specs.SeenItems.{seen_unit}
use Rattle.elab_constant.specs.Seen.{look}
use Rattle.vl_elab.specs.Standing.{seen_here, IsJoined}
use Rattle.vl_elab.specs.Growing.{Grows}
use Rattle.vl_elab.proofs.ports.add_inputs.Given as goal

abbrev pub invariant-loop-name : goal.invariant-loop-name
invariant-loop-name l = (m : x.Module) → IsJoined l.ports m →
    Grows l.initial.making l.making (flat_map (λ t. f.input_part (seen_here l.ports.above) (look l.ports.names.now) m (seen_unit l.ports.unit.now) t.name) (take l.name-index l.names))
