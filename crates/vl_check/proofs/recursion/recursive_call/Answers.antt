use Rattle.std.proofs.Common.{ap}
use Rattle.std.proofs.lemmas.Result.{IfOk-weaker}
use Rattle.vl_design.specs.Seen.{placed}
use Rattle.vl_design.specs.First.{IsFirst}
use Rattle.vl_check.specs.Recursion.{IsRecursion}
use Rattle.vl_check.specs.Tables.{rows_of, IsCycleCall}
use Rattle.vl_check.proofs.Tabling.{design-rows, closed, recursion-first}
use Rattle.vl_check.proofs.recursion.recursive_call.Goals as goal

pub table_fault-requires-clause-within : goal.table_fault-requires-clause-within
table_fault-requires-clause-within c =
    closed (placed c.args.design.now) (rows_of c.as_slice.result.now) (design-rows c.args.design.now.funcs c.as_slice-funcs.result.now (rows_of c.in_ok-table.table.items) (rows_of c.as_slice.result.now) c.as_slice-funcs.ensures c.in_ok-table.ensures (ap rows_of c.as_slice.ensures.value))

pub returns : goal.returns
returns c =
    let d = placed c.args.design.now in
    let rows = rows_of c.as_slice.result.now in
    IfOk-weaker c.table_fault.result (IsFirst (IsCycleCall rows)) (IsFirst (IsRecursion d))
    (recursion-first d rows (design-rows c.args.design.now.funcs c.as_slice-funcs.result.now (rows_of c.in_ok-table.table.items) rows c.as_slice-funcs.ensures c.in_ok-table.ensures (ap rows_of c.as_slice.ensures.value)))
    c.table_fault.ensures
