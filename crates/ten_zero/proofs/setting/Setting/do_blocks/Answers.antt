use Rattle.std.proofs.Common.{sym, ap}
use Rattle.vl_design.specs.Alone.{blocks}
use Rattle.vl_design.specs.Queue.{is_init}
use Rattle.sub_runs.specs.vl_runs.proofs.Bodies.{procs-are, sound-at}
use Rattle.sub_runs.specs.sub_nodes.specs.Cycles.{execs}
use Rattle.sub_runs.specs.sub_nodes.specs.Implements.{bodies}
use Rattle.ten_zero.specs.Early.{flat_in, scope_in, state_in}
use Rattle.ten_zero.proofs.Walking.{unrolled-at}
use Rattle.ten_zero.proofs.setting.Setting.do_blocks.Goals as goal

pub loop-process-init : goal.loop-process-init
loop-process-init c =
    let same = procs-are c.args.self.now.design.now c.as_slice-process-items.result.now c.as_slice-process-items.ensures in
    record {
      machine = c.requires.machine;
      does = ap (λ ps. execs (scope_in c.args.self.now) (bodies (blocks is_init ps)) (state_in c.args.e.now)) (sym same);
    }

pub walk-requires-clause-sound : goal.walk-requires-clause-sound
walk-requires-clause-sound c =
    let xs = c.as_slice-process-items.result.now in
    let same = procs-are c.args.self.now.design.now xs c.as_slice-process-items.ensures in
    rw c.as_slice.ensures
    (sound-at (flat_in c.args.self.now) xs c.loop-process.process-index c.process-item.result c.requires.sound same c.loop-process-test.true c.process-item.is)

pub walk-requires-clause-unrolled : goal.walk-requires-clause-unrolled
walk-requires-clause-unrolled c =
    let xs = c.as_slice-process-items.result.now in
    let same = procs-are c.args.self.now.design.now xs c.as_slice-process-items.ensures in
    rw c.as_slice.ensures
    (unrolled-at (flat_in c.args.self.now) xs c.loop-process.process-index c.process-item.result c.requires.unrolled same c.loop-process-test.true c.process-item.is)
