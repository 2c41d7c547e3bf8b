use Rattle.std.proofs.Common.{◌≡◌, ◌+◌, sym, ◌∙◌}
use Rattle.std.proofs.lemmas.Result.{on_ok_weaker}
use Rattle.vl_design.specs.Exec.{exec}
use Rattle.vl_design.specs.Trees.{stm_of}
use Rattle.vl_run.specs.Machines.{state_of}
use Rattle.ten_zero.specs.Early.{scope_in, state_in}
use Rattle.ten_zero.proofs.Acting.{does-counting}
use Rattle.ten_zero.proofs.setting.Setting.act.Goals as goal

pub returns-clause-does : goal.returns-clause-does
returns-clause-does c =
    let scope = scope_in c.args.self.now in
    let a = stm_of c.args.path.now c.args.s.now in
    let e = c.args.e.now in
    let n = c.exec_process.new.m in
    let did = does-counting scope a e.machine n e.acts (e.acts + 1) c.in_ok-exec_process.ensures.does c.requires.one in
    let step : state_in c.count.new.self ≡ state_of n (e.acts + 1) → exec scope a (state_in e) ≡ state_in c.count.new.self = λ h. did ∙ sym h in
    on_ok_weaker _ step c.count.ensures.state
