use Rattle.std.proofs.Common.{ap, ◌∙◌, sym}
use Rattle.elab_plain.specs.vl_flat.specs.Scopes.{plainly}
use Rattle.elab_plain.specs.Seen.{seen}
use Rattle.elab_constant.specs.Seen.{seen_scope}
use Rattle.elab_constant.specs.Folded.{folded}
use Rattle.elab_constant.proofs.Wholes.{own-value_is, own-form_is}
use Rattle.elab_constant.proofs.whole.own_value.Goals as goal

pub returns-then-is_constant-clause-value : goal.returns-then-is_constant-clause-value
returns-then-is_constant-clause-value c =
    let s = plainly (seen_scope c.args.scope.now).names in
    c.evaluate.ensures.value
    ∙ (ap (folded s.names (seen c.args.e.now)) c.constant_form-form.ensures.same ∙ own-value_is s (seen c.args.e.now) (sym c.if-is_constant.ensures))

pub returns-then-is_constant-clause-width : goal.returns-then-is_constant-clause-width
returns-then-is_constant-clause-width c =
    let s = plainly (seen_scope c.args.scope.now).names in
    c.evaluate.ensures.width
    ∙ ap (λ f. f.width) (c.constant_form-form.ensures.same ∙ own-form_is s (seen c.args.e.now) (sym c.if-is_constant.ensures))

pub returns-then-is_constant-clause-signed : goal.returns-then-is_constant-clause-signed
returns-then-is_constant-clause-signed c =
    let s = plainly (seen_scope c.args.scope.now).names in
    ap (λ f. f.signed) (c.constant_form-form.ensures.same ∙ own-form_is s (seen c.args.e.now) (sym c.if-is_constant.ensures))
