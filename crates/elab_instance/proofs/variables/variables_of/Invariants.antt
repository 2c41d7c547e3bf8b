use Rattle.std.proofs.Common.{◌≡◌, ◌∷◌, false, map, flat_map, take}
use Rattle.elab_plain.specs.SeenItems.{seen_local, seen_locals, seen_type}
use Rattle.elab_instance.specs.Variables.{seen_variable}
use Rattle.elab_instance.proofs.variables.variables_of.Given as goal

abbrev pub invariant-loop-group : goal.invariant-loop-group
invariant-loop-group l = map seen_variable l.all.items ≡ seen_local (seen_type l.function.kind) false false l.function.name ∷ flat_map seen_locals (take l.group-index l.group-items)
