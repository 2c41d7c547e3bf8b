use Rattle.std.proofs.Common.{◌≡◌, ◌+◌, List, ◌∷◌, drop, map, sym, subst, ap, ◌∙◌}
use Rattle.std.proofs.lemmas.List.{drop_more}
use Rattle.host_judge.specs.host_text.specs.declared.script.Free.{Free}
use Rattle.host_report.specs.Ends.{is_refused}
use Rattle.host_outcomes.specs.Given.{costs_of}
use Rattle.host_outcomes.specs.Steps.{AreMade}
use Rattle.host_outcomes.proofs.replies.replies.Goals as goal

pub add-requires-clause-made : goal.add-requires-clause-made
add-requires-clause-made c =
    let items = c.as_slice-order-items.result.now in
    let i = c.loop-order.order-index in
    let o = c.order-item.result in
    let rest : List Free = drop (i + 1) items in
    let at : drop i items ≡ o ∷ rest = drop_more items i o c.loop-order-test.true ∙ ap (λ (x : Free). x ∷ rest) (sym c.order-item.is) in
    (rest, subst (λ (xs : List Free). AreMade c.args.script.now (map is_refused c.args.refusals.now) (costs_of c.args.ended.now) c.args.answers.now c.loop-order.made.lines.items c.loop-order.made.next xs) at c.loop-order.invariant)

pub loop-order-preserved : goal.loop-order-preserved
loop-order-preserved c =
    let items = c.as_slice-order-items.result.now in
    let i = c.loop-order.order-index in
    let o = c.order-item.result in
    let rest : List Free = drop (i + 1) items in
    let at : drop i items ≡ o ∷ rest = drop_more items i o c.loop-order-test.true ∙ ap (λ (x : Free). x ∷ rest) (sym c.order-item.is) in
    c.in_ok-add.ensures rest
    (subst (λ (xs : List Free). AreMade c.args.script.now (map is_refused c.args.refusals.now) (costs_of c.args.ended.now) c.args.answers.now c.loop-order.made.lines.items c.loop-order.made.next xs) at c.loop-order.invariant)
