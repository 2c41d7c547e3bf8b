use Rattle.std.proofs.Common.{ap, ◌∙◌}
use Rattle.elab_kinds.specs.declared.declared.Declaration.{Declaration}
use Rattle.elab_kinds.proofs.roles.is_input.Goals as goal

pub returns-clause-table : goal.returns-clause-table
returns-clause-table c = ap (λ (d : Declaration). d.input) c.declaration_at.ensures

pub returns-clause-module : goal.returns-clause-module
returns-clause-module c = λ m e. ap (λ (d : Declaration). d.input) c.declaration_at.ensures ∙ (λ i. (e i c.args.name.now).input)
