use Rattle.std.proofs.Common.{◌≡◌, ◌++◌, take}
use Rattle.std.specs.Prelude.{flat_map}
use Rattle.elab_plain.specs.vl_flat.specs.Declarations.{locals_in}
use Rattle.elab_plain.specs.SeenItems.{seen_locals}
use Rattle.elab_items.proofs.functions.add_locals.Given as goal

abbrev pub invariant-loop-a : goal.invariant-loop-a
invariant-loop-a l = flat_map seen_locals l.all.items ≡ flat_map seen_locals l.initial.all.items ++ flat_map locals_in (take l.a-index l.declarations)
