use Rattle.vl_design.specs.First.{IsFirst}
use Rattle.vl_check.specs.Tables.{rows_of, IsBefore}
use Rattle.vl_check.proofs.recursion.search_all.Given as goal

abbrev pub invariant-loop-f : goal.invariant-loop-f
invariant-loop-f l = IsFirst (IsBefore (rows_of l.table) l.f) l.best
