use Rattle.std.proofs.Common.{◌≡◌, ℕ, ◌+◌, suc, ap, ◌∙◌}
use Rattle.std.proofs.lemmas.Result.{on_ok_weaker}
use Rattle.vl_eval.specs.vl_design.specs.Queue.{is_fall}
use Rattle.vl_eval.specs.vl_design.specs.Alone.{blocks, falls}
use Rattle.vl_eval.specs.vl_design.specs.Trees.{flat_of}
use Rattle.plain_run.specs.Runs.{Completes, StandsAt}
use Rattle.plain_run.proofs.Boundaries.{ticked-once}
use Rattle.plain_run.proofs.run.tick.Goals as goal

pub settle-requires-clause-machine : goal.settle-requires-clause-machine
settle-requires-clause-machine c = record {
  fine = rw c.rise.ensures.values c.requires.machine.fine;
  later = rw c.rise.ensures.later c.requires.machine.later;
}

pub returns-clause-boundary : goal.returns-clause-boundary
returns-clause-boundary c =
    let d = flat_of c.args.design.now in
    let files = c.args.files.now in
    let m = c.args.m.now in
    let r = c.rise.new.m in
    let n = c.settle.new.m in
    let o = c.fall.new.m in
    let step : Completes d files (falls (blocks is_fall d.procs)) n o → (budget k : ℕ) → StandsAt d files budget k m → StandsAt d files budget (suc k) o =
    λ h budget k at. ticked-once d files budget k m r n o c.requires.going c.rise.ensures.state c.in_ok-settle.ensures.settles h at in
    on_ok_weaker _ step c.fall.ensures.completes

pub returns-clause-ticks : goal.returns-clause-ticks
returns-clause-ticks c =
    let m = c.args.m.now in
    let r = c.rise.new.m in
    let n = c.settle.new.m in
    let o = c.fall.new.m in
    let up : r.ticks ≡ m.ticks + 1 = ap (λ s. s.ticks) (c.rise.ensures.state 0) in
    let step : o.ticks ≡ n.ticks → o.ticks ≡ m.ticks + 1 = λ h. h ∙ c.in_ok-settle.ensures.ticks ∙ up in
    on_ok_weaker _ step c.fall.ensures.ticks
