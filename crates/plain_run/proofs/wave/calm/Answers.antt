use Rattle.std.proofs.Common.{◌≡◌, [], sym, ap, ◌∙◌}
use Rattle.std.proofs.lemmas.Result.{on_ok_weaker}
use Rattle.vl_eval.specs.vl_design.specs.State.{State}
use Rattle.vl_eval.specs.vl_design.specs.Trees.{flat_of}
use Rattle.plain_run.specs.Runs.{Passes, SettlesAs}
use Rattle.plain_run.proofs.Passing.{passes-ticks}
use Rattle.plain_run.proofs.Waves.{all-updated}
use Rattle.plain_run.proofs.wave.calm.Goals as goal

pub returns-clause-ticks : goal.returns-clause-ticks
returns-clause-ticks c =
    let d = flat_of c.args.design.now in
    let files = c.args.files.now in
    let order = c.args.order.now in
    let m = c.args.m.now in
    let n = c.pass.new.m in
    let o = c.update.new.m in
    let p = c.pass-2.new.m in
    let made : o.ticks ≡ n.ticks = sym (ap {A = State} (λ s. s.ticks) (c.update.ensures.state 0)) in
    let step : Passes d files order o p → p.ticks ≡ m.ticks = λ h. passes-ticks d files order o p h ∙ made ∙ passes-ticks d files order m n c.in_ok-pass.ensures.passes in
    on_ok_weaker _ step c.pass-2.ensures.passes

pub returns-clause-settles : goal.returns-clause-settles
returns-clause-settles c =
    let d = flat_of c.args.design.now in
    let files = c.args.files.now in
    let order = c.args.order.now in
    let m = c.args.m.now in
    let p = c.pass-2.new.m in
    let step : Passes d files order c.update.new.m p → SettlesAs d files [] m p =
    λ h. all-updated d files order c.requires.checked c.requires.order m c.pass.new.m c.update.new.m p c.requires.going c.in_ok-pass.ensures.passes c.update.ensures.state h in
    on_ok_weaker _ step c.pass-2.ensures.passes
