use Rattle.std.proofs.Common.{arith, take, drop, ℕ, List, sym, subst}
use Rattle.std.proofs.Math.Seq.{take-add}
use Rattle.host_run.specs.Taking.{Takes}
use Rattle.host_run.proofs.Takings.{takes-more}
use Rattle.host_run.proofs.put.put.Goals as goal

pub pieces-preserved : goal.pieces-preserved
pieces-preserved g c =
    let text = c.args.text.now in
    let sent = c.pieces.sent in
    let more = c.in-Ok.more in
    let old = g.K.Sink.taken c.args.sink.now in
    let new = g.K.Sink.taken c.write.new.self in
    let here : Takes (g.K.Sink.taken c.pieces.sink) new (take more (drop sent text)) =
    rw (← c.split_at.ensures.back) c.in-Ok.ensures.taken in
    let both = takes-more old (g.K.Sink.taken c.pieces.sink) new (take sent text) (take more (drop sent text)) c.pieces.invariant.taken here in
    record {
      within = omega (arith, c.in-Ok.ensures.within, c.split_at.ensures.back_len);
      faults = omega (arith, c.pieces.invariant.faults, c.in-Ok.ensures.faults);
      taken = subst (λ (t : List ℕ). Takes old new t) (sym (take-add sent more text)) both;
    }
