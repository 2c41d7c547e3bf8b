use Rattle.std.proofs.Common.{◌≡◌, ◌<◌, true, false, ◌∷◌, [], length, map, arith, sym, ap, ◌∙◌}
use Rattle.std.proofs.lemmas.Result.{on_ok_weaker}
use Rattle.vl_design.specs.Queue.{is_comb}
use Rattle.vl_design.specs.Functions.{scope_of}
use Rattle.vl_design.specs.Trees.{flat_of, proc_of, stm_of}
use Rattle.vl_run.specs.Machines.{Does}
use Rattle.sub_runs.specs.vl_runs.specs.NetsOfSettle.{comb_at}
use Rattle.plain_run.specs.Runs.{Passes}
use Rattle.sub_runs.specs.vl_runs.proofs.Bodies.{procs-are, procs-long, proc-is, sound-at}
use Rattle.plain_run.proofs.Passing.{evaluated, skipped}
use Rattle.ten_zero.proofs.setting.Setting.evaluate.Goals as goal

pub returns-then-not-is_comb-clause-passes : goal.returns-then-not-is_comb-clause-passes
returns-then-not-is_comb-clause-passes c =
    let d = flat_of c.args.self.now.design.now in
    let xs = c.as_slice.result.now in
    let i = c.args.number in
    let x = c.index-as_slice-number.result in
    let procs : d.procs ≡ map proc_of xs = procs-are c.args.self.now.design.now xs c.as_slice.ensures in
    let there : i < length xs = omega (arith, c.requires.there, procs-long d xs procs) in
    let kind : comb_at d i ≡ false = ap (λ p. is_comb p.kind) (proc-is d xs i x procs there c.index-as_slice-number.is) ∙ sym c.is_comb.ensures ∙ c.if-not-is_comb.true in
    skipped d c.args.self.now.files.now i c.args.m.now kind

pub exec_process-requires-clause-sound : goal.exec_process-requires-clause-sound
exec_process-requires-clause-sound c =
    let d = flat_of c.args.self.now.design.now in
    let xs = c.as_slice.result.now in
    let procs : d.procs ≡ map proc_of xs = procs-are c.args.self.now.design.now xs c.as_slice.ensures in
    let there : c.args.number < length xs = omega (arith, c.requires.there, procs-long d xs procs) in
    rw c.as_slice-2.ensures (sound-at d xs c.args.number c.index-as_slice-number.result c.requires.sound procs there c.index-as_slice-number.is)

pub returns-clause-passes : goal.returns-clause-passes
returns-clause-passes c =
    let d = flat_of c.args.self.now.design.now in
    let files = c.args.self.now.files.now in
    let xs = c.as_slice.result.now in
    let i = c.args.number in
    let x = c.index-as_slice-number.result in
    let procs : d.procs ≡ map proc_of xs = procs-are c.args.self.now.design.now xs c.as_slice.ensures in
    let there : i < length xs = omega (arith, c.requires.there, procs-long d xs procs) in
    let proc = proc-is d xs i x procs there c.index-as_slice-number.is in
    let kind : comb_at d i ≡ true = ap (λ p. is_comb p.kind) proc ∙ sym c.is_comb.ensures ∙ c.if-not-is_comb.false in
    let step : Does (scope_of d files) (stm_of c.as_slice-2.result.now x.body) c.args.m.now c.exec_process.new.m → Passes d files (i ∷ []) c.args.m.now c.exec_process.new.m =
    λ h. evaluated d files i c.args.m.now c.exec_process.new.m c.requires.checked kind (rw (proc, ← c.as_slice-2.ensures) h) in
    on_ok_weaker _ step c.exec_process.ensures.does
