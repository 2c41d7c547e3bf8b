use Rattle.std.proofs.Common.{ap, ◌∙◌}
use Rattle.elab_plain.specs.vl_flat.specs.Ranges as r
use Rattle.elab_constant.specs.Types.{numbers}
use Rattle.elab_kinds.specs.Facts.{body_facts_of, free_kind}
use Rattle.elab_instance.specs.Variables.{seen_variable, plain_shape}
use Rattle.elab_instance.proofs.functions.local_shape.Goals as goal

pub returns : goal.returns
returns c =
    let l = seen_variable c.args.variable.now in
    let range = numbers c.type_range-range.result in
    let told = body_facts_of c.args.roles.now in
    let kind = free_kind l.is_free (told l.name.name) in
    c.plain_shape.ensures
    ∙ ap (λ k. plain_shape k c.is_signed.result c.has_range.result range) (c.local_kind-kind.ensures.known ∙ ap (λ t. free_kind l.is_free (told t)) c.as_slice.ensures)
    ∙ ap (λ s. plain_shape kind s c.has_range.result range) c.is_signed.ensures
    ∙ ap (λ b. plain_shape kind (r.is_signed l.type) b range) c.has_range.ensures
    ∙ ap (plain_shape kind (r.is_signed l.type) (r.has_range l.type)) (c.type_range-range.ensures.same ∙ ap (λ s. r.type_range s.names l.type) c.module_scope.ensures)
