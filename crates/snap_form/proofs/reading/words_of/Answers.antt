use Rattle.std.proofs.lemmas.Result.{err_from_is_err_and}
use Rattle.snap_form.proofs.Loops.{words-next, words-fail, words-done}
use Rattle.snap_form.proofs.reading.words_of.Goals as goal

pub loop-preserved : goal.loop-preserved
loop-preserved c = rw c.in_ok-push.ensures.items (words-next c.args.count c.loop.counter c.args.width c.loop.words.items c.in_ok-word.word c.loop.rest.now c.in_ok-word.after.now _ c.loop-test.true c.in_ok-word.ensures c.loop.invariant)

pub returns-in_err-word : goal.returns-in_err-word
returns-in_err-word c =
    let p = err_from_is_err_and c.from_residual.result c.from_residual.ensures.1 in
    rw (p.1, p.2) (words-fail _ c.args.count c.loop.counter c.args.width c.loop.words.items c.loop.rest.now _ c.loop-test.true c.in_err-word.ensures c.loop.invariant)

pub returns : goal.returns
returns c = words-done c.args.count c.loop.counter c.args.width c.loop.words.items c.loop.rest.now _ c.loop-test.false c.loop.invariant
