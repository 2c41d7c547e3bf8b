use Rattle.std.proofs.Common.{◌≡◌, map, drop}
use Rattle.elab_plain.specs.vl_flat.specs.Scopes.{none}
use Rattle.elab_constant.specs.Seen.{look}
use Rattle.elab_kinds.specs.Facts.{body_facts_of}
use Rattle.elab_instance.specs.Variables.{seen_variable, with_own}
use Rattle.elab_instance.proofs.functions.locals.Given as goal

abbrev pub invariant-loop-variable : goal.invariant-loop-variable
invariant-loop-variable l =
    with_own (look l.names) (body_facts_of l.frame.roles) l.number (look l.locals) (map seen_variable (drop l.variable-index l.frame.variables.items))
    ≡ with_own (look l.names) (body_facts_of l.frame.roles) l.behind none (map seen_variable l.frame.variables.items)
