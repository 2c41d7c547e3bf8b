use Rattle.std.proofs.Common.{ap, ◌∙◌}
use Rattle.elab_plain.specs.vl_flat.specs.Surface as x
use Rattle.vl_design.specs.Placed as p
use Rattle.elab_plain.specs.vl_flat.specs.Expressions as flat
use Rattle.vl_design.specs.Seen.{args_of}
use Rattle.elab_plain.specs.Seen.{args_before}
use Rattle.elab_constant.specs.Seen.{seen_scope}
use Rattle.elab_expr.proofs.Bodies.{args-are}
use Rattle.elab_expr.proofs.statements.task.Goals as goal

pub returns : goal.returns
returns c =
    let s = seen_scope c.args.scope.now in
    let given = args_before c.args.given.now x.NoArgs in
    let keeps = c.keeps_texts-keeps.ensures ∙ ap flat.keeps_texts c.as_slice.ensures in
    ap (λ z. p.Task c.args.at z (args_of c.in_ok-args.args.items)) c.in_ok-name.ensures
    ∙ ap (p.Task c.args.at c.args.name.now) (args-are c.in_ok-args.args.items ∙ (c.in_ok-args.ensures x.NoArgs ∙ ap (λ k. flat.args s k given) keeps))
