use Rattle.std.proofs.Common.{ap, ◌∙◌, sym}
use Rattle.vl_base.specs.Value as v
use Rattle.elab_plain.specs.vl_flat.specs.Scopes.{plainly}
use Rattle.elab_plain.specs.Seen.{seen}
use Rattle.elab_constant.specs.Seen.{seen_scope}
use Rattle.elab_constant.specs.Folded.{folded}
use Rattle.elab_constant.proofs.Wholes.{constant-reading}
use Rattle.elab_constant.proofs.whole.reading.Goals as goal

pub returns-then-is_constant-clause-same : goal.returns-then-is_constant-clause-same
returns-then-is_constant-clause-same c =
    let s = seen_scope c.args.scope.now in
    let e = seen c.args.e.now in
    let f = c.constant_form-form.result in
    (c.whole_number.ensures
    ∙ (ap (λ n. v.reading f.signed n c.evaluate.result.value) c.evaluate.ensures.width
    ∙ (ap (v.reading f.signed f.width) c.evaluate.ensures.value
    ∙ ap (λ g. v.reading g.signed g.width (folded s.names e g)) c.constant_form-form.ensures.same)))
    ∙ sym (constant-reading s e (sym c.if-is_constant.ensures))

pub returns-then-is_constant-clause-plain : goal.returns-then-is_constant-clause-plain
returns-then-is_constant-clause-plain c =
    let s = seen_scope c.args.scope.now in
    let e = seen c.args.e.now in
    let f = c.constant_form-form.result in
    (c.whole_number.ensures
    ∙ (ap (λ n. v.reading f.signed n c.evaluate.result.value) c.evaluate.ensures.width
    ∙ (ap (v.reading f.signed f.width) c.evaluate.ensures.value
    ∙ ap (λ g. v.reading g.signed g.width (folded s.names e g)) c.constant_form-form.ensures.same)))
    ∙ sym (constant-reading (plainly s.names) e (sym c.if-is_constant.ensures))
