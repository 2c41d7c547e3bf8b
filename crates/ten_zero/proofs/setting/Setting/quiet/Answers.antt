use Rattle.std.proofs.Common.{◌≡◌}
use Rattle.std.proofs.lemmas.Result.{on_ok_weaker}
use Rattle.vl_design.specs.Exec.{exec}
use Rattle.vl_design.specs.Trees.{stm_of}
use Rattle.vl_run.specs.Machines.{state_of, Does}
use Rattle.ten_zero.specs.Early.{scope_in, state_in}
use Rattle.ten_zero.proofs.Acting.{does-quietly}
use Rattle.ten_zero.proofs.setting.Setting.quiet.Goals as goal

pub returns-clause-does : goal.returns-clause-does
returns-clause-does c =
    let scope = scope_in c.args.self.now in
    let a = stm_of c.args.path.now c.args.s.now in
    let e = c.args.e.now in
    let n = c.exec_process.new.m in
    let step : Does scope a e.machine n → exec scope a (state_in e) ≡ state_of n e.acts = λ h. does-quietly scope a e.machine n e.acts c.requires.quiet h in
    on_ok_weaker _ step c.exec_process.ensures.does
