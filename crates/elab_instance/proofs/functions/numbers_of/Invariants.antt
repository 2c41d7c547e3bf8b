use Rattle.std.proofs.Common.{◌≡◌, ◌++◌, map, drop}
use Rattle.elab_plain.specs.vl_flat.specs.Functions as f
use Rattle.elab_instance.specs.Variables.{seen_variable}
use Rattle.elab_instance.proofs.functions.numbers_of.Given as goal

abbrev pub invariant-loop-variable : goal.invariant-loop-variable
invariant-loop-variable l = l.numbers.items ++ f.input_numbers l.number (map seen_variable (drop l.variable-index l.variables)) ≡ f.input_numbers l.behind (map seen_variable l.variables)
