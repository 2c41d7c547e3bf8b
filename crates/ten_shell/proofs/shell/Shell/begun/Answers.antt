use Rattle.std.proofs.Common.{subst}
use Rattle.ten_plan.specs.Plans.{plan_of, AreBefore}
use Rattle.ten_shell.proofs.Tests.{is-there}
use Rattle.ten_shell.proofs.Standing.{begins}
use Rattle.ten_shell.proofs.shell.Shell.begun.Goals as goal

pub returns-clause-stands : goal.returns-clause-stands
returns-clause-stands c = λ b g x.
    let e = c.args.engine in
    let done = c.errands_before_a_tick_are_done_at_it.ensures in
    let before = subst (λ o. AreBefore (plan_of o.plan).errands e.ticks c.before-done.result) c.deref.ensures c.before-done.ensures in (
      g.acts,
      g.stage,
      begins done.done done.saves c.args.number e c.new.result c.new-2.result c.before-done.result b c.new.ensures.items c.new-2.ensures.items g x before,
      is-there g.stage.state.finished _ g.alive g.rises,
      g.ticks,
    )
