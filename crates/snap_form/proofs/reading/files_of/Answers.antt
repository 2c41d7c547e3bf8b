use Rattle.std.proofs.lemmas.Result.{err_from_is_err_and}
use Rattle.snap_form.proofs.Loops.{files-next, files-fail, files-done}
use Rattle.snap_form.proofs.reading.files_of.Goals as goal

pub loop-preserved : goal.loop-preserved
loop-preserved c = rw c.in_ok-push.ensures.items (files-next c.args.files.now c.args.count c.loop.counter c.loop.least c.loop.table.items c.in_ok-file.file c.loop.rest.now c.in_ok-file.after.now _ c.loop-test.true c.in_ok-file.ensures.gives c.loop.invariant)

pub returns-in_err-file : goal.returns-in_err-file
returns-in_err-file c =
    let p = err_from_is_err_and c.from_residual.result c.from_residual.ensures.1 in
    rw (p.1, p.2) (files-fail _ c.args.files.now c.args.count c.loop.counter c.loop.least c.loop.table.items c.loop.rest.now _ c.loop-test.true c.in_err-file.ensures.gives c.loop.invariant)

pub returns : goal.returns
returns c = rw c.from_vec.ensures (files-done c.args.files.now c.args.count c.loop.counter c.loop.least c.loop.table.items c.loop.rest.now _ c.loop-test.false c.loop.invariant)
