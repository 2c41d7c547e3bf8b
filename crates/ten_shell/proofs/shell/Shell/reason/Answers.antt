use Rattle.std.proofs.Common.{◌≡◌, [], drop, ◌∙◌, ap, sym, subst, cond, Some, None, arith}
use Rattle.std.specs.Prelude.{nat_le}
use Rattle.vl_design.specs.declared.design.End.TheVariants.{Stopped}
use Rattle.vl_design.specs.Alone.{save_names, stop_at}
use Rattle.ten_plan.specs.Plans.{plan_of, AreDone}
use Rattle.ten_shell.specs.Shells.{run_of}
use Rattle.ten_shell.proofs.Tests.{has-finished, has-spent, has-rest, le-true, le-false}
use Rattle.ten_shell.proofs.Standing.{none-there, rest-there, same-state, there}
use Rattle.ten_shell.proofs.shell.Shell.reason.Goals as goal

pub stops-requires-clause-done : goal.stops-requires-clause-done
stops-requires-clause-done c =
    let s = c.args.self.now in
    let b = c.requires.0 in
    let n = c.requires.1 in
    let i = c.requires.2 in
    let w = c.requires.3 in
    let here = rest-there s b n i w c.requires.4 (sym (c.done.ensures b n i w) ∙ c.if-done.false) in
    subst (λ x. AreDone (plan_of x.plan).errands c.ticks-else-ticks-plan.result s.done) (sym c.deref.ensures)
    (subst (λ k. AreDone (run_of s).plan.errands k s.done) (sym (c.ticks-else-ticks-plan.ensures b n i w)) (there s b n i w here).done)

pub stops-requires-clause-saved : goal.stops-requires-clause-saved
stops-requires-clause-saved c =
    let s = c.args.self.now in
    let b = c.requires.0 in
    let n = c.requires.1 in
    let i = c.requires.2 in
    let w = c.requires.3 in
    let none = none-there s b n i w (c.requires.4.saved (sym (c.done.ensures b n i w) ∙ c.if-done.false)) in
    subst (λ x. save_names c.ticks-else-ticks-plan.result (drop s.done (plan_of x.plan).errands) ≡ []) (sym c.deref.ensures)
    (subst (λ k. save_names k (drop s.done (run_of s).plan.errands) ≡ []) (w.at.ticks ∙ sym (c.ticks-else-ticks-plan.ensures b n i w)) none)

pub returns-then-done : goal.returns-then-done
returns-then-done c = λ b n i q w r at.
    let s = c.args.self.now in
    let same = same-state s b n i w c.a_run_at_rest_is_at_a_boundary.ensures.boundary c.has_one_state_at_a_boundary.ensures r q at in
    has-finished q.state.finished (nat_le (run_of s).plan.budget i.state.ticks) (stop_at i.state.ticks (run_of s).plan.errands)
    (ap (λ st. st.finished) same ∙ sym (c.done.ensures b n i w) ∙ c.if-done.true)

pub returns-then-ticks-plan : goal.returns-then-ticks-plan
returns-then-ticks-plan c = λ b n i q w r at.
    let s = c.args.self.now in
    let same = same-state s b n i w c.a_run_at_rest_is_at_a_boundary.ensures.boundary c.has_one_state_at_a_boundary.ensures r q at in
    let budget = ap (λ x. x.plan.budget) c.deref.ensures in
    let ticks = c.ticks.ensures b n i w in
    has-spent q.state.finished (nat_le (run_of s).plan.budget i.state.ticks) (stop_at i.state.ticks (run_of s).plan.errands)
    (ap (λ st. st.finished) same ∙ sym (c.done.ensures b n i w) ∙ c.if-done.false)
    (le-true (run_of s).plan.budget i.state.ticks (omega (arith, budget, ticks, c.if-ticks-plan.true)))

pub returns-then-stops : goal.returns-then-stops
returns-then-stops c = λ b n i q w r at.
    let s = c.args.self.now in
    let same = same-state s b n i w c.a_run_at_rest_is_at_a_boundary.ensures.boundary c.has_one_state_at_a_boundary.ensures r q at in
    let budget = ap (λ x. x.plan.budget) c.deref.ensures in
    let ticks = c.ticks.ensures b n i w in
    let stop = sym (ap (λ k. stop_at k (run_of s).plan.errands) (c.ticks-else-ticks-plan.ensures b n i w)) ∙ sym (ap (λ x. stop_at c.ticks-else-ticks-plan.result (plan_of x.plan).errands) c.deref.ensures) ∙ sym c.stops.ensures ∙ c.if-stops.true in
    sym (ap (λ x. cond x (Some Stopped) None) stop)
    ∙ has-rest q.state.finished (nat_le (run_of s).plan.budget i.state.ticks) (stop_at i.state.ticks (run_of s).plan.errands)
    (ap (λ st. st.finished) same ∙ sym (c.done.ensures b n i w) ∙ c.if-done.false)
    (le-false (run_of s).plan.budget i.state.ticks (omega (arith, budget, ticks, c.if-ticks-plan.false)))

pub returns-else-stops : goal.returns-else-stops
returns-else-stops c = λ b n i q w r at.
    let s = c.args.self.now in
    let same = same-state s b n i w c.a_run_at_rest_is_at_a_boundary.ensures.boundary c.has_one_state_at_a_boundary.ensures r q at in
    let budget = ap (λ x. x.plan.budget) c.deref.ensures in
    let ticks = c.ticks.ensures b n i w in
    let stop = sym (ap (λ k. stop_at k (run_of s).plan.errands) (c.ticks-else-ticks-plan.ensures b n i w)) ∙ sym (ap (λ x. stop_at c.ticks-else-ticks-plan.result (plan_of x.plan).errands) c.deref.ensures) ∙ sym c.stops.ensures ∙ c.if-stops.false in
    sym (ap (λ x. cond x (Some Stopped) None) stop)
    ∙ has-rest q.state.finished (nat_le (run_of s).plan.budget i.state.ticks) (stop_at i.state.ticks (run_of s).plan.errands)
    (ap (λ st. st.finished) same ∙ sym (c.done.ensures b n i w) ∙ c.if-done.false)
    (le-false (run_of s).plan.budget i.state.ticks (omega (arith, budget, ticks, c.if-ticks-plan.false)))
