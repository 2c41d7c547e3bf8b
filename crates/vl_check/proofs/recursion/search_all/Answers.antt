use Rattle.std.proofs.Common.{◌≤◌, ℕ, sym, subst}
use Rattle.vl_check.specs.Tables.{rows_of}
use Rattle.vl_check.proofs.Cycling.{none-before, all-before}
use Rattle.vl_check.proofs.Tabling.{many-rows, row-at}
use Rattle.vl_check.proofs.recursion.search_all.Goals as goal

pub loop-f-init : goal.loop-f-init
loop-f-init c = none-before (rows_of c.args.table.now)

pub returns : goal.returns
returns c = all-before (rows_of c.args.table.now) c.loop-f.f c.loop-f.best (subst (λ (n : ℕ). n ≤ c.loop-f.f) (sym (many-rows c.args.table.now)) c.loop-f-test.false) c.loop-f.invariant

pub calls_fault-requires-clause-row : goal.calls_fault-requires-clause-row
calls_fault-requires-clause-row c = row-at c.args.table.now c.loop-f.f c.index-table-f.result c.as_slice.result.now c.loop-f-test.true c.index-table-f.is c.as_slice.ensures.value
