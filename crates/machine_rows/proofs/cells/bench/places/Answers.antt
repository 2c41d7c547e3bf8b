use Rattle.std.proofs.Common.{◌+◌, ◌<◌, ℕ, sym, map, length, arith, subst, List}
use Rattle.std.proofs.lemmas.List.{length-map}
use Rattle.vl_design.specs.Trees.{row_of}
use Rattle.cell_emit.proofs.Reading.{row-at}
use Rattle.machine_rows.proofs.Placing.{Placing, placing-none, placing-more, placing-all}
use Rattle.machine_rows.proofs.cells.bench.places.Goals as goal

pub loop-signal-init : goal.loop-signal-init
loop-signal-init c =
    let rows = map row_of c.args.signals.now in
    let F : List ℕ → Type 0 = λ ps. Placing rows ps 0 c.args.bank.now in
    subst F (sym c.new-places.ensures.items) (placing-none rows c.args.bank.now)

pub loop-signal-preserved : goal.loop-signal-preserved
loop-signal-preserved c =
    let signals = c.args.signals.now in
    let rows = map row_of signals in
    let n = c.loop-signal.signal-index in
    let x = c.signal-item.result in
    let lt : n < length signals = omega arith in
    let F : List ℕ → Type 0 = λ ps. Placing rows ps (n + 1) c.place.new.bank in
    subst F (sym c.in_ok-push.ensures.items)
    (placing-more rows c.loop-signal.places.items n c.loop-signal.bank c.place.new.bank (row_of x) c.in_ok-place.place (row-at signals n x lt c.signal-item.is)
    c.loop-signal.invariant c.in_ok-place.ensures.extends c.in_ok-place.ensures.placed)

pub returns : goal.returns
returns c =
    let signals = c.args.signals.now in
    let long = length-map signals row_of in
    placing-all (map row_of signals) c.loop-signal.places.items c.loop-signal.signal-index c.loop-signal.bank (omega arith) c.loop-signal.invariant
