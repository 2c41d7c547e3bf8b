use Rattle.vl_check.specs.Tables.{rows_of}
use Rattle.vl_check.proofs.Freeing.{none-back}
use Rattle.vl_check.proofs.recursion.table_fault.Goals as goal

pub returns-then-free : goal.returns-then-free
returns-then-free c = none-back (rows_of c.args.table.now) (c.in_ok-free.ensures c.if-free.true)
