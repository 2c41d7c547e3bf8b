use Rattle.std.proofs.lemmas.Result.{err_from_is_err_and}
use Rattle.snap_form.proofs.Loops.{values-next, values-fail, values-done, width_at}
use Rattle.snap_form.proofs.reading.values_of.Goals as goal

pub words_of-requires : goal.words_of-requires
words_of-requires c = width_at c.args.rows.now c.loop-row.row-index _ c.requires c.loop-row-test.true c.row-item.is

pub loop-row-preserved : goal.loop-row-preserved
loop-row-preserved c = values-next c.args.rows.now c.loop-row.row-index c.word_count.result _ c.loop-row.words.items c.loop-row.rest.now _ _ _ c.loop-row-test.true c.row-item.is c.word_count.ensures c.in_ok-rest.ensures c.loop-row.invariant

pub returns-in_err-rest : goal.returns-in_err-rest
returns-in_err-rest c =
    let p = err_from_is_err_and c.from_residual.result c.from_residual.ensures.1 in
    rw (p.1, p.2) (values-fail _ c.args.rows.now c.loop-row.row-index c.word_count.result _ c.loop-row.words.items c.loop-row.rest.now _ c.loop-row-test.true c.row-item.is c.word_count.ensures c.in_err-rest.ensures c.loop-row.invariant)

pub returns : goal.returns
returns c = rw c.from_vec.ensures (values-done c.args.rows.now c.loop-row.row-index c.loop-row.words.items c.loop-row.rest.now _ c.loop-row-test.false c.loop-row.invariant)
