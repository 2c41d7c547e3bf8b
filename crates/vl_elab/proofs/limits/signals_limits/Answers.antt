use Rattle.std.proofs.Common.{ap, sym, ◌∙◌, fold, take}
use Rattle.std.proofs.lemmas.List.{take_all}
use Rattle.elab_plain.specs.vl_flat.specs.Outcome as o
use Rattle.vl_design.specs.Stops.{earliest}
use Rattle.vl_elab.specs.Growing.{totals_of}
use Rattle.vl_elab.proofs.Counting.{limits-more, totals-more}
use Rattle.vl_elab.proofs.limits.signals_limits.Goals as goal

pub loop-signal-preserved : goal.loop-signal-preserved
loop-signal-preserved c =
    let n = totals_of c.args.t in
    let rs = c.args.signals.now in
    let i = c.loop-signal.signal-index in
    let r = c.signal-item.result in
    let t = c.in_ok-totals.ensures ∙ ap (λ z. o.with_signal z r) c.loop-signal.invariant.1 in (
      c.signal_limits-best.ensures
          ∙ (ap (λ z. earliest c.loop-signal.best (o.signal_limits z r)) t
          ∙ (ap (λ z. earliest z (o.signal_limits (o.with_signal (fold o.with_signal n (take i rs)) r) r)) c.loop-signal.invariant.0
          ∙ sym (limits-more c.args.best n rs i r c.loop-signal-test.true c.signal-item.is))),
      t ∙ sym (totals-more n rs i r c.loop-signal-test.true c.signal-item.is),
    )

pub returns-clause-best : goal.returns-clause-best
returns-clause-best c =
    c.loop-signal.invariant.0
    ∙ ap (λ z. earliest c.args.best (o.signals_limits (totals_of c.args.t) z)) (take_all c.loop-signal.signal-index c.args.signals.now c.loop-signal-test.false)

pub returns-clause-totals : goal.returns-clause-totals
returns-clause-totals c =
    c.loop-signal.invariant.1
    ∙ ap (fold o.with_signal (totals_of c.args.t)) (take_all c.loop-signal.signal-index c.args.signals.now c.loop-signal-test.false)
