use Rattle.std.proofs.Common.{◌<◌, ◌≡◌, List, ◌++◌, length, map, get_or, sym, ap, ◌∙◌, subst}
use Rattle.std.specs.List.{AllByRecursion}
use Rattle.vl_design.specs.declared.design.Signal.{Signal}
use Rattle.vl_design.specs.Trees.{row_of}
use Rattle.snap_form.specs.declared.snapshot.SnapRow.{SnapRow}
use Rattle.ten_core.specs.Holding.{IsSized}
use Rattle.ten_core.proofs.Adding.{own_row, rows-more, sized-at}
use Rattle.ten_core.proofs.ports.snapshot_rows.Goals as goal

pub add_row-requires : goal.add_row-requires
add_row-requires c =
    let items = c.as_slice-signal-items.result.now in
    let all = subst (λ (xs : List Signal). AllByRecursion IsSized (map row_of xs)) (sym c.as_slice-signal-items.ensures) c.requires.signals in
    sized-at items c.loop-signal.signal-index c.signal-item.result c.loop-signal-test.true c.signal-item.is all

pub loop-signal-preserved : goal.loop-signal-preserved
loop-signal-preserved c =
    let signals = c.args.design.now.signals in
    let n = c.loop-signal.signal-index in
    let x = c.signal-item.result in
    let same = c.as_slice-signal-items.ensures in
    let lt : n < length signals = subst (λ (xs : List Signal). n < length xs) same c.loop-signal-test.true in
    let is : x ≡ get_or signals n x = c.signal-item.is ∙ ap (λ (xs : List Signal). get_or xs n x) same in
    c.in_ok-add_row.ensures ∙ ap (λ (rows : List SnapRow). rows ++ own_row (row_of x)) c.loop-signal.invariant ∙ sym (rows-more signals n x lt is)
