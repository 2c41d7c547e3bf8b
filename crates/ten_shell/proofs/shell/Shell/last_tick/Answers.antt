use Rattle.std.proofs.Common.{◌∙◌, ◌-◌, ap, cond, sym}
use Rattle.vl_design.specs.vl_base.proofs.Booleans.{or_both_false}
use Rattle.ten_shell.specs.Shells.{flat_in, is_at_boundary}
use Rattle.ten_shell.proofs.Tests.{or-left, or-right}
use Rattle.ten_shell.proofs.shell.Shell.last_tick.Goals as goal

pub returns-then-done : goal.returns-then-done
returns-then-done c = λ b n i w.
    let there = is_at_boundary (flat_in c.args.self.now) i in
    c.ticks-ticks.ensures b n i w
    ∙ sym (ap (λ x. cond x i.state.ticks (i.state.ticks - 1)) (or-left i.state.finished there (sym (c.done.ensures b n i w) ∙ c.if-done.true)))

pub returns-then-at_boundary : goal.returns-then-at_boundary
returns-then-at_boundary c = λ b n i w.
    let there = is_at_boundary (flat_in c.args.self.now) i in
    c.ticks-ticks.ensures b n i w
    ∙ sym (ap (λ x. cond x i.state.ticks (i.state.ticks - 1)) (or-right i.state.finished there (sym (c.at_boundary.ensures b n i w) ∙ c.if-at_boundary.true)))

pub returns-else-at_boundary : goal.returns-else-at_boundary
returns-else-at_boundary c = λ b n i w.
    let there = is_at_boundary (flat_in c.args.self.now) i in
    c.saturating_sub.ensures
    ∙ ap (λ t. t - 1) (c.ticks-ticks.ensures b n i w)
    ∙ sym (ap (λ x. cond x i.state.ticks (i.state.ticks - 1)) (or_both_false i.state.finished there (sym (c.done.ensures b n i w) ∙ c.if-done.false) (sym (c.at_boundary.ensures b n i w) ∙ c.if-at_boundary.false)))
