use Rattle.std.proofs.Common.{◌≡◌, true, false, refl, sym, ◌∙◌}
use Rattle.vl_eval.specs.vl_design.specs.Functions.{scope_of}
use Rattle.vl_eval.specs.vl_design.specs.Trees.{flat_of, stm_of}
use Rattle.vl_eval.specs.vl_design.proofs.TreeLemmas.{procs-map}
use Rattle.plain_run.specs.Runs.{is_of}
use Rattle.vl_runs.proofs.Bodies.{procs-are, sound-at}
use Rattle.plain_run.proofs.Bodies.{does-ticks}
use Rattle.plain_run.proofs.Waves.{reaches-here, wave-passed, wave-run}
use Rattle.plain_run.proofs.wave.run_wave.Goals as goal
use Rattle.plain_run.proofs.wave.run_wave.Goals.{then-belongs+in_ok-exec_process, else-belongs}

pub loop-process-init : goal.loop-process-init
loop-process-init c = record {
  machine = c.requires.machine;
  ticks = refl;
  reaches = rw (c.as_slice-process-items.ensures, ← procs-map c.args.design.now.processes) (reaches-here _ _ _ _);
}

pub exec_process-requires-clause-sound : goal.exec_process-requires-clause-sound
exec_process-requires-clause-sound c =
    let xs = c.as_slice-process-items.result.now in
    rw c.as_slice.ensures
    (sound-at (flat_of c.args.design.now) xs c.loop-process.process-index c.process-item.result c.requires.sound (procs-are c.args.design.now xs c.as_slice-process-items.ensures) c.loop-process-test.true c.process-item.is)

pub loop-process-preserved : goal.loop-process-preserved
loop-process-preserved c =
    let d = flat_of c.args.design.now in
    let files = c.args.files.now in
    let xs = c.as_slice-process-items.result.now in
    let i = c.loop-process.process-index in
    let x = c.process-item.result in
    let l = c.loop-process.invariant in
    elim c.if-belongs.branch [
      | then-belongs+in_ok-exec_process w ↦
          let at : is_of c.args.wave x.kind ≡ true = sym c.belongs.ensures ∙ w.if-belongs.true in
          let done = rw w.as_slice.ensures at w.in_ok-exec_process.ensures in
          let ticks = does-ticks (scope_of d files) (stm_of x.path x.body) _ _ done.does in
          record {
            machine = rw w.m-is done.machine;
            ticks = rw w.m-is (ticks ∙ l.ticks);
            reaches = rw w.m-is (wave-run d files (is_of c.args.wave) xs i x _ _ c.loop-process.m _ c.if-m.false c.loop-process-test.true c.process-item.is at l.reaches done.does);
          }
      | else-belongs w ↦
          let at : is_of c.args.wave x.kind ≡ false = sym c.belongs.ensures ∙ w.if-belongs.false in
          record {
            machine = rw w.m-is l.machine;
            ticks = rw w.m-is l.ticks;
            reaches = rw w.m-is (wave-passed d files (is_of c.args.wave) xs i x _ _ c.loop-process.m c.loop-process-test.true c.process-item.is at l.reaches);
          }
    ]
