use Rattle.std.proofs.Common.{◌<◌, ◌≡◌, List, ◌++◌, length, map, get_or, sym, ap, ◌∙◌, subst}
use Rattle.std.specs.List.{AllByRecursion}
use Rattle.vl_design.specs.declared.design.Signal.{Signal}
use Rattle.vl_design.specs.Trees.{row_of}
use Rattle.trap_runtime.specs.cell_form.specs.declared.bank.Port.{Port}
use Rattle.ten_core.specs.Holding.{IsSized}
use Rattle.ten_core.proofs.Adding.{own_port, ports-more, sized-at}
use Rattle.ten_core.proofs.ports.ports.Goals as goal

pub add_port-requires-clause-sized : goal.add_port-requires-clause-sized
add_port-requires-clause-sized c =
    let items = c.as_slice-signal-items.result.now in
    let all = subst (λ (xs : List Signal). AllByRecursion IsSized (map row_of xs)) (sym c.as_slice-signal-items.ensures) c.requires.signals in
    sized-at items c.loop-number.number c.signal-item.result c.loop-number-test.true c.signal-item.is all

pub loop-number-preserved : goal.loop-number-preserved
loop-number-preserved c =
    let signals = c.args.design.now.signals in
    let n = c.loop-number.number in
    let x = c.signal-item.result in
    let same = c.as_slice-signal-items.ensures in
    let lt : n < length signals = subst (λ (xs : List Signal). n < length xs) same c.loop-number-test.true in
    let is : x ≡ get_or signals n x = c.signal-item.is ∙ ap (λ (xs : List Signal). get_or xs n x) same in
    c.in_ok-add_port.ensures ∙ ap (λ (ps : List Port). ps ++ own_port n (row_of x)) c.loop-number.invariant ∙ sym (ports-more signals n x lt is)
