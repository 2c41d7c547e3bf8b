use Rattle.vl_design.specs.Acts.{default_body}
use Rattle.vl_run.specs.Cases.{items_of}
use Rattle.vl_run.proofs.Casing.{default-found, default-passed, none-there, some-there}
use Rattle.cell_expr.proofs.case.default_of.Goals as goal

pub returns-then-is_empty-clause-body : goal.returns-then-is_empty-clause-body
returns-then-is_empty-clause-body c = λ path.
    let x = c.index-items-number.result in
    let test = rw c.as_slice.ensures.value at c.is_empty.ensures in
    let empty = rw (← c.index-items-number.is) at test in
    default-found path c.args.items.now c.loop-number.number x c.loop-number-test.true c.index-items-number.is
    (none-there x.labels.items c.is_empty.result empty c.if-is_empty.true) (c.loop-number.invariant path)

pub loop-number-preserved : goal.loop-number-preserved
loop-number-preserved c = λ path.
    let x = c.index-items-number.result in
    let test = rw c.as_slice.ensures.value at c.is_empty.ensures in
    let empty = rw (← c.index-items-number.is) at test in
    default-passed path (default_body (items_of path c.args.items.now)) c.args.items.now c.loop-number.number x c.loop-number-test.true c.index-items-number.is
    (some-there x.labels.items c.is_empty.result empty c.if-is_empty.false) (c.loop-number.invariant path)
