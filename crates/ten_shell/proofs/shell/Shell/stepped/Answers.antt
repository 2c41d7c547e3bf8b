use Rattle.std.proofs.Common.{◌∙◌, ◌+◌, ◌<◌, ◌^◌, suc, cond, sym, subst}
use Rattle.ten_core.specs.cell_form.specs.States.{table_cycled}
use Rattle.ten_core.specs.Runs.{after_cycle}
use Rattle.ten_core.specs.Tenants.{table_in}
use Rattle.ten_core.specs.Running.{IsRunning}
use Rattle.ten_shell.specs.Shells.{run_of}
use Rattle.ten_shell.proofs.Standing.{cycled, cycled-left}
use Rattle.ten_shell.proofs.shell.Shell.stepped.Goals as goal

pub stepped-requires-clause-cycles : goal.stepped-requires-clause-cycles
stepped-requires-clause-cycles c =
    let w = c.requires.3 in
    subst (λ x. x + 1 < 2 ^ 64) (sym w.at.cycles) (c.ticks_and_acts_can_be_counted.ensures.acts (run_of c.args.self.now) w.order c.requires.1 c.requires.2 w.running)

pub returns-clause-point : goal.returns-clause-point
returns-clause-point c = λ b n i w m next.
    let s = c.args.self.now in
    let o = run_of s in
    let done = c.errands_before_a_tick_are_done_at_it.ensures in
    let near = c.each_act_comes_nearer.ensures in
    let e = c.stepped.new.self in
    let at = c.stepped.ensures.at b o w.order n i next w.running.tame w.at in
    let running = subst (λ x. IsRunning o w.order (cond x n (suc n)) (after_cycle o w.order i)) (sym at.waits) (near.cycle o w.order n i w.running m.goes_on (sym w.at.waits ∙ m.no_call)) in
    cycled s b n i w c.a_run_at_rest_is_at_a_boundary.ensures.boundary near.rises near.ticks m done.done done.saves e c.done_behind-self.result (table_cycled (table_in s.engine) b) (cond e.waits n (suc n))
    c.stepped.ensures.origin running at (c.done_behind-self.ensures b n i w m)

pub returns-clause-left : goal.returns-clause-left
returns-clause-left c = λ b n i w m next there.
    let s = c.args.self.now in
    let o = run_of s in
    let done = c.errands_before_a_tick_are_done_at_it.ensures in
    let near = c.each_act_comes_nearer.ensures in
    let e = c.stepped.new.self in
    let at = c.stepped.ensures.at b o w.order n i next w.running.tame w.at in
    let running = subst (λ x. IsRunning o w.order (cond x n (suc n)) (after_cycle o w.order i)) (sym at.waits) (near.cycle o w.order n i w.running m.goes_on (sym w.at.waits ∙ m.no_call)) in
    cycled-left s b n i w c.a_run_at_rest_is_at_a_boundary.ensures.boundary near.rises near.ticks m done.done done.saves e c.done_behind-self.result (table_cycled (table_in s.engine) b) (cond e.waits n (suc n))
    c.stepped.ensures.origin running at (c.done_behind-self.ensures b n i w m) there
