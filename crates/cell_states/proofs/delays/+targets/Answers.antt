use Rattle.std.proofs.Common.{refl}
use Rattle.vl_design.specs.Seen.{target_of}
use Rattle.cell_emit.specs.vl_sites.specs.Lists.{targets_of}
use Rattle.cell_states.specs.Marks.{target_signals, targets_signals}
use Rattle.cell_states.proofs.Marking.{step-more}
use Rattle.cell_states.proofs.delays.+targets.Goals as goal

pub targets-loop-t-preserved : goal.targets-loop-t-preserved
targets-loop-t-preserved t c =
    step-more (λ ts. targets_signals (targets_of ts)) (λ x. target_signals (target_of x)) c.args.ts.now c.loop-t.t-index c.t-item.result c.args.marks.now.items c.loop-t.marks.items c.target.new.marks.items (λ y ys. refl)
    c.loop-t-test.true c.t-item.is c.target.ensures c.loop-t.invariant
