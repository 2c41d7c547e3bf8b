use Rattle.std.proofs.Common.{ap, ◌∙◌, sym}
use Rattle.elab_plain.specs.vl_flat.specs.Surface as x
use Rattle.elab_plain.specs.Seen.{args_before}
use Rattle.elab_plain.specs.Listed as g
use Rattle.elab_plain.proofs.StatementTrees.{task-is}
use Rattle.elab_bind.proofs.statements.bind_task.Goals as goal

pub returns-in_ok-arguments-in-Some : goal.returns-in_ok-arguments-in-Some
returns-in_ok-arguments-in-Some c =
    task-is c.args.at c.args.call.now c.in_ok-name.name (args_before c.in_ok-arguments-in-Some.arguments.items x.NoArgs) c.in_ok-name.ensures
    (c.in_ok-arguments-in-Some.ensures x.NoArgs ∙ (ap (λ z. g.args_before z x.NoArgs) c.as_slice.ensures ∙ sym (ap g.given c.in-Some.is)))
