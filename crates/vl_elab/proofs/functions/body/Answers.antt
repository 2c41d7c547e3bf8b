use Rattle.std.proofs.Common.{ap, ◌∙◌}
use Rattle.std.proofs.lemmas.Result.{IfOk-weaker}
use Rattle.elab_plain.specs.vl_flat.specs.Statements.{statement}
use Rattle.elab_plain.specs.SeenStatements.{seen_statement}
use Rattle.elab_plain.specs.SeenItems.{seen_function}
use Rattle.vl_elab.proofs.functions.body.Goals as goal

pub returns : goal.returns
returns c =
    let a = seen_function c.args.a.now in
    IfOk-weaker c.statement.result _ _
    (λ s is frame. is ∙ ap (λ e. statement e (seen_statement c.args.a.now.body)) (c.function_scope.ensures ∙ c.in_ok-own.ensures.function a frame))
    c.statement.ensures
