use Rattle.std.proofs.Common.{◌≡◌, map, take}
use Rattle.elab_plain.specs.vl_flat.specs.Functions.{signal}
use Rattle.elab_constant.specs.Seen.{look}
use Rattle.elab_kinds.specs.Facts.{body_facts_of}
use Rattle.elab_instance.specs.Variables.{local_shape, seen_variable}
use Rattle.elab_instance.proofs.functions.local_signals.Given as goal

abbrev pub invariant-loop-variable : goal.invariant-loop-variable
invariant-loop-variable l = l.signals.items ≡ map (λ v. signal l.path v.name (local_shape (look l.names) (body_facts_of l.frame.roles) v)) (map seen_variable (take l.variable-index l.frame.variables.items))
