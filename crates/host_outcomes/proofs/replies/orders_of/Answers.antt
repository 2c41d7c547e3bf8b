use Rattle.std.proofs.Common.{◌≡◌, ◌+◌, List, ◌∷◌, ◌++◌, drop, map, sym, ap, ◌∙◌}
use Rattle.std.proofs.lemmas.List.{drop_more}
use Rattle.host_judge.specs.host_text.specs.declared.script.Free.{Free}
use Rattle.host_report.specs.Ends.{is_refused}
use Rattle.host_outcomes.specs.Given.{costs_begun, given}
use Rattle.host_outcomes.proofs.replies.orders_of.Goals as goal

pub loop-order-preserved : goal.loop-order-preserved
loop-order-preserved c =
    let items = c.as_slice-order-items.result.now in
    let i = c.loop-order.order-index in
    let o = c.order-item.result in
    let rest : List Free = drop (i + 1) items in
    let at : drop i items ≡ o ∷ rest = drop_more items i o c.loop-order-test.true ∙ ap (λ (x : Free). x ∷ rest) (sym c.order-item.is) in
    c.in_ok-add_order.ensures rest
    ∙ ap (λ (xs : List Free). c.loop-order.orders.items ++ given c.args.script.now.fabrics (map is_refused c.args.refusals.now) (costs_begun c.args.starts.now) xs) (sym at)
    ∙ c.loop-order.invariant
