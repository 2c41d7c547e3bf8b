use Rattle.vl_runs.proofs.Checks.{accepted}
use Rattle.vl_runs.proofs.Ticks.{block_keeps}
use Rattle.vl_runs.proofs.Steady.{IsAccepted}
use Rattle.vl_paths.specs.vl_design.specs.Queue.{proc_at}
use Rattle.vl_runs.proofs.settle_laws.blocks_keep_driven_bits.Goals as goal

pub returns : goal.returns
returns c = λ d files i s k e.
    let acc : IsAccepted d = accepted d k in
    block_keeps d files acc (proc_at d i).body (acc.apart i e) s
