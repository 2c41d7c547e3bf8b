use Rattle.std.proofs.Common.{◌≡◌, ◌++◌, map, take}
use Rattle.vl_scope.specs.Declarations as spec
use Rattle.vl_scope.proofs.items.add_variables.Given as goal

abbrev pub invariant-loop-variable : goal.invariant-loop-variable
invariant-loop-variable l = spec.all_seen l.declarations.items ≡ spec.all_seen l.initial.declarations.items ++ map (λ a. spec.declared (spec.variable_class a.more) l.vector a.name) (take l.variable-index l.variables)
