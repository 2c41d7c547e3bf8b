use Rattle.std.proofs.Common.{◌≡◌, fold, take}
use Rattle.elab_plain.specs.vl_flat.specs.Outcome as o
use Rattle.vl_design.specs.Stops.{earliest}
use Rattle.vl_elab.specs.Growing.{totals_of}
use Rattle.vl_elab.proofs.limits.signals_limits.Given as goal

abbrev pub invariant-loop-signal : goal.invariant-loop-signal
invariant-loop-signal l =
    (l.best ≡ earliest l.fn.best (o.signals_limits (totals_of l.fn.t) (take l.signal-index l.signals)))
    × (totals_of l.totals ≡ fold o.with_signal (totals_of l.fn.t) (take l.signal-index l.signals))
