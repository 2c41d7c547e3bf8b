use Rattle.std.proofs.lemmas.Result.{err_from_is_err_and}
use Rattle.snap_form.specs.Reading.{rows_at}
use Rattle.snap_form.proofs.Loops.{rows-next, rows-fail, rows-done}
use Rattle.snap_form.proofs.reading.rows_of.Goals as goal

pub loop-row-preserved : goal.loop-row-preserved
loop-row-preserved c = rows-next c.args.rows.now c.loop-row.row-index _ c.loop-row.rest.now _ (rows_at c.args.rows.now c.args.left.now) c.loop-row-test.true c.row-item.is c.in_ok-rest.ensures c.loop-row.invariant

pub returns-in_err-rest : goal.returns-in_err-rest
returns-in_err-rest c =
    let p = err_from_is_err_and c.from_residual.result c.from_residual.ensures.1 in
    rw (p.1, p.2) (rows-fail _ c.args.rows.now c.loop-row.row-index _ c.loop-row.rest.now (rows_at c.args.rows.now c.args.left.now) c.loop-row-test.true c.row-item.is c.in_err-rest.ensures c.loop-row.invariant)

pub returns : goal.returns
returns c = rows-done c.args.rows.now c.loop-row.row-index c.loop-row.rest.now (rows_at c.args.rows.now c.args.left.now) c.loop-row-test.false c.loop-row.invariant
