use Rattle.std.proofs.Common.{◌≡◌, ◌∙◌, sym, ap}
use Rattle.std.proofs.lemmas.Result.{on_ok_weaker}
use Rattle.vl_design.specs.Queue.{with_updates}
use Rattle.vl_design.specs.State.{State, counted}
use Rattle.vl_run.specs.Machines.{state_of}
use Rattle.plain_run.specs.Runs.{Passes}
use Rattle.sub_runs.specs.sub_nodes.specs.Cycles.{settled}
use Rattle.sub_runs.specs.Nets.{nets_of}
use Rattle.ten_zero.specs.Early.{flat_in, state_in, wave_done}
use Rattle.ten_zero.proofs.setting.Setting.end_wave.Goals as goal

pub returns-clause-does : goal.returns-clause-does
returns-clause-does c =
    let d = flat_in c.args.self.now in
    let files = c.args.self.now.files.now in
    let order = c.args.order.now in
    let nets = nets_of d files order in
    let e = c.args.e.now in
    let once = c.count.new.self in
    let twice = c.count-2.new.self in
    let first : settled d files nets (state_in once) ≡ state_of c.pass.new.m once.acts = sym (c.in_ok-pass.ensures.passes once.acts) in
    let made = c.update.ensures.state once.acts in
    let counts : counted (state_of c.update.new.m once.acts) ≡ state_in twice = sym c.in_ok-count-2.ensures.state in
    let begun = ap (λ (s : State). settled d files nets s) (sym c.in_ok-count.ensures.state) ∙ first in
    let updated = ap (λ (s : State). counted (with_updates d.rows s)) begun ∙ (ap (λ (s : State). counted s) made ∙ counts) in
    let step : Passes d files order twice.machine c.pass-2.new.m → wave_done d files order (state_in e) ≡ state_of c.pass-2.new.m twice.acts =
    λ h. ap (λ (s : State). settled d files nets s) updated ∙ sym (h twice.acts) in
    on_ok_weaker _ step c.pass-2.ensures.passes
