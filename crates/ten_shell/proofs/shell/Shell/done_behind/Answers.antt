use Rattle.std.proofs.Common.{◌+◌, ◌∙◌, sym, ap, subst}
use Rattle.vl_design.specs.Alone.{save_names}
use Rattle.ten_plan.specs.Plans.{plan_of, AreBefore, AreDone}
use Rattle.std.specs.Prelude.{◌≡◌, [], drop}
use Rattle.ten_shell.specs.Shells.{run_of}
use Rattle.ten_shell.proofs.Tests.{is-elsewhere}
use Rattle.ten_shell.proofs.Standing.{done-there, elsewhere, may-be-there, none-there}
use Rattle.ten_shell.proofs.shell.Shell.done_behind.Goals as goal

pub past-requires-clause-done : goal.past-requires-clause-done
past-requires-clause-done c =
    let s = c.args.self.now in
    let i = c.requires.2 in
    let w = c.requires.3 in
    let up = sym (c.at_boundary.ensures c.requires.0 (run_of s) w.order c.requires.1 i w.at) ∙ c.if-at_boundary.true in
    subst (λ x. AreDone (plan_of x.plan).errands s.engine.ticks s.done) (sym c.deref.ensures) (done-there s _ _ i w (may-be-there s _ _ i w c.requires.4 up))

pub past-requires-clause-saved : goal.past-requires-clause-saved
past-requires-clause-saved c =
    let s = c.args.self.now in
    let i = c.requires.2 in
    let w = c.requires.3 in
    let up = sym (c.at_boundary.ensures c.requires.0 (run_of s) w.order c.requires.1 i w.at) ∙ c.if-at_boundary.true in
    subst (λ x. save_names s.engine.ticks (drop s.done (plan_of x.plan).errands) ≡ []) (sym c.deref.ensures) (none-there s _ _ i w (c.requires.4.saved (may-be-there s _ _ i w c.requires.4 up)))

pub returns-then-at_boundary : goal.returns-then-at_boundary
returns-then-at_boundary c = λ b n i w m.
    let s = c.args.self.now in
    let up = sym (c.at_boundary.ensures b (run_of s) w.order n i w.at) ∙ c.if-at_boundary.true in
    subst (λ t. AreBefore (run_of s).plan.errands t c.past.result) (ap (λ t. t + 1) w.at.ticks ∙ sym (c.each_act_comes_nearer.ensures.rises (run_of s) w.order n i w.running up))
    (subst (λ x. AreBefore (plan_of x.plan).errands (s.engine.ticks + 1) c.past.result) c.deref.ensures c.past.ensures)

pub returns-else-at_boundary : goal.returns-else-at_boundary
returns-else-at_boundary c = λ b n i w m.
    let s = c.args.self.now in
    let low = sym (c.at_boundary.ensures b (run_of s) w.order n i w.at) ∙ c.if-at_boundary.false in
    subst (λ t. AreBefore (run_of s).plan.errands t s.done) (sym (c.each_act_comes_nearer.ensures.ticks (run_of s) w.order n i w.running low))
    (elsewhere s b n i w (is-elsewhere i.state.finished _ low)).done
