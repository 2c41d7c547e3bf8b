use Rattle.std.proofs.Common.{ℕ, ◌+◌, ◌*◌, ◌++◌, [], ◌∷◌, map, sym, ap, ◌∙◌, arith}
use Rattle.std.proofs.lemmas.List.{take_all}
use Rattle.vl_design.specs.Trees.{row_of}
use Rattle.ten_form.specs.Registers as s
use Rattle.ten_form.proofs.Placing.{places-more}
use Rattle.ten_form.proofs.places.places.Goals as goal

pub loop-number-preserved : goal.loop-number-preserved
loop-number-preserved c =
    let n = c.loop-number.number in
    let x = c.index-signals-number.result in
    let f : ℕ → ℕ = λ k. 4 * k + c.args.copy in
    let lt = c.loop-number-test.true in
    c.in_ok-push.ensures.items ∙ ap (λ y. c.loop-number.places.items ++ y ∷ []) c.place.ensures ∙ ap (λ ps. ps ++ s.place f x.kind n ∷ []) c.loop-number.invariant
    ∙ sym (places-more f c.args.signals.now n x lt c.index-signals-number.is)

pub returns : goal.returns
returns c =
    let over = c.loop-number-test.false in
    c.loop-number.invariant ∙ ap (λ xs. s.places (λ k. 4 * k + c.args.copy) (map row_of xs)) (take_all c.loop-number.number c.args.signals.now (omega arith))
