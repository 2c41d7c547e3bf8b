use Rattle.std.proofs.Common.{◌≡◌, ◌+◌, refl, sym, ap, ◌∙◌}
use Rattle.std.proofs.lemmas.Result.{on_ok_weaker}
use Rattle.vl_design.specs.Exec.{exec}
use Rattle.vl_design.specs.Plainly.{called_first}
use Rattle.vl_design.specs.Seen as seen
use Rattle.vl_design.specs.State.{State}
use Rattle.vl_design.specs.Syntax.{Nop}
use Rattle.vl_run.specs.Machines.{state_of}
use Rattle.ten_zero.specs.Early.{scope_in, state_in}
use Rattle.ten_zero.proofs.Acting.{does-counting, first-counts, first-rests}
use Rattle.ten_zero.proofs.setting.Setting.ask.Goals as goal

pub returns-then-calls-clause-does : goal.returns-then-calls-clause-does
returns-then-calls-clause-does c =
    let scope = scope_in c.args.self.now in
    let path = c.args.path.now in
    let x = seen.exp_of c.args.test.now in
    let a = called_first path x Nop in
    let e = c.args.e.now in
    let n = c.call_in_process.new.m in
    let one = first-counts scope path x Nop (state_in e) refl (sym c.calls.ensures ∙ c.if-calls.true) c.requires.going in
    let did = does-counting scope a e.machine n e.acts (e.acts + 1) c.in_ok-call_in_process.ensures.does one in
    let step : state_in c.count.new.self ≡ state_of n (e.acts + 1) → exec scope a (state_in e) ≡ state_in c.count.new.self = λ h. did ∙ sym h in
    on_ok_weaker _ step c.count.ensures.state

pub returns-else-calls-clause-does : goal.returns-else-calls-clause-does
returns-else-calls-clause-does c =
    let scope = scope_in c.args.self.now in
    let path = c.args.path.now in
    let x = seen.exp_of c.args.test.now in
    let e = c.args.e.now in
    let none = ap (λ (s : State). s.count) (first-rests scope path x (state_in e) (sym c.calls.ensures ∙ c.if-calls.false)) in
    does-counting scope (called_first path x Nop) e.machine c.call_in_process.new.m e.acts e.acts c.in_ok-call_in_process.ensures.does none
