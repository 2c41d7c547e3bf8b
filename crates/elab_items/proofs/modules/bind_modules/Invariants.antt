use Rattle.std.proofs.Common.{◌≡◌, map, take}
use Rattle.elab_plain.specs.vl_flat.specs.Declarations.{module'}
use Rattle.elab_plain.specs.SeenItems.{seen_module}
use Rattle.elab_items.proofs.modules.bind_modules.Given as goal

abbrev pub invariant-loop-m : goal.invariant-loop-m
invariant-loop-m l = map seen_module l.all.items ≡ map module' (take l.m-index l.modules)
