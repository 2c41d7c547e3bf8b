use Rattle.std.proofs.Common.{◌≡◌, ap, ◌∙◌, ◌%◌, ◌^◌, true, arith}
use Rattle.elab_plain.specs.vl_flat.specs.Expressions.{is_constant}
use Rattle.elab_plain.specs.vl_flat.specs.Scopes.{plainly}
use Rattle.elab_plain.specs.Seen.{seen}
use Rattle.elab_constant.specs.Seen.{seen_scope}
use Rattle.elab_constant.specs.Folded.{folded}
use Rattle.vl_design.specs.Width.{assigned}
use Rattle.elab_constant.proofs.Wholes.{assigned-is}
use Rattle.elab_constant.proofs.whole.assigned_value.Goals as goal

pub returns-clause-value : goal.returns-clause-value
returns-clause-value c =
    let s = plainly (seen_scope c.args.scope.now).names in
    let e = seen c.args.e.now in
    let h : is_constant s.names e ≡ true = grind arith in
    c.resize.ensures.value
    ∙ (ap (λ n. n % 2 ^ c.args.width) (c.evaluate.ensures.value ∙ ap (folded s.names e) (c.assigned-context.ensures ∙ (ap (λ n. assigned n c.constant_form-form.result) c.from.ensures ∙ ap (assigned c.args.width) c.constant_form-form.ensures.same)))
    ∙ assigned-is s e c.args.width h)
