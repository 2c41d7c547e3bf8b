use Rattle.std.proofs.Common.{◌≡◌, take}
use Rattle.std.specs.Prelude.{flat_map}
use Rattle.elab_plain.specs.vl_flat.specs.Declarations.{inputs_in}
use Rattle.elab_plain.specs.SeenItems.{seen_locals}
use Rattle.elab_items.proofs.functions.header_inputs.Given as goal

abbrev pub invariant-loop-a : goal.invariant-loop-a
invariant-loop-a l = flat_map seen_locals l.all.items ≡ flat_map inputs_in (take l.a-index l.ports)
