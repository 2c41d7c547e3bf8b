use Rattle.std.proofs.Common.{◌++◌, ◌∷◌, [], add-one, sym, ap, ◌∙◌}
use Rattle.ten_parcel.specs.Lists.{some_words}
use Rattle.ten_parcel.proofs.Banking.{words-more}
use Rattle.ten_parcel.proofs.bank.some_words.Goals as goal

pub loop-number-preserved : goal.loop-number-preserved
loop-number-preserved c =
    let words = c.args.words.now in
    let n = c.loop-number.number in
    c.in_ok-push.ensures.items
    ∙ (ap (λ ys. ys ++ c.word.result ∷ []) c.loop-number.invariant
    ∙ (ap (λ w. some_words n words ++ w ∷ []) c.word.ensures
    ∙ (sym (words-more n words) ∙ ap (λ k. some_words k words) (sym (add-one n)))))
