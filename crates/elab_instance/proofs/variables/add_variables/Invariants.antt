use Rattle.std.proofs.Common.{◌≡◌, ◌++◌, map, take}
use Rattle.elab_plain.specs.SeenItems.{seen_local, seen_type}
use Rattle.elab_instance.specs.Variables.{seen_variable}
use Rattle.elab_instance.proofs.variables.add_variables.Given as goal

abbrev pub invariant-loop-name : goal.invariant-loop-name
invariant-loop-name l = map seen_variable l.all.items ≡ map seen_variable l.initial.all.items ++ map (seen_local (seen_type l.group.kind) l.group.is_input l.group.is_free) (take l.name-index l.name-items)
