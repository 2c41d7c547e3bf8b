use Rattle.std.proofs.Common.{List, length, map, refl, ap}
use Rattle.vl_design.specs.declared.design.Process.{Process}
use Rattle.vl_design.specs.declared.design.Signal.{Signal}
use Rattle.vl_design.specs.Seen.{stm_of, process_of}
use Rattle.cell_states.specs.Marks.{stm_signals, procs_signals}
use Rattle.cell_states.proofs.Marking.{step-more, are-delayed}
use Rattle.cell_states.proofs.delays.delayed.Goals as goal

pub loop-process-preserved : goal.loop-process-preserved
loop-process-preserved c =
    step-more (λ xs. procs_signals (map process_of xs)) (λ (x : Process). stm_signals (stm_of x.body)) c.as_slice-process-items.result.now c.loop-process.process-index c.process-item.result c.in_ok-marks.marks.items
    c.loop-process.marks.items c.statement.new.marks.items (λ y ys. refl) c.loop-process-test.true c.process-item.is c.statement.ensures c.loop-process.invariant

pub returns : goal.returns
returns c =
    are-delayed c.args.design.now (length c.as_slice-signals.result.now) c.loop-process.process-index c.as_slice-process-items.result.now c.in_ok-marks.marks.items c.loop-process.marks.items
    (ap (λ (xs : List Signal). length xs) c.as_slice-signals.ensures) c.as_slice-process-items.ensures (c.in_ok-marks.ensures.items_if_clones_equal (λ y h. h)) c.loop-process-test.false c.loop-process.invariant
