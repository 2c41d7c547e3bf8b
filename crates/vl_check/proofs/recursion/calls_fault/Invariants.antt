use Rattle.std.proofs.Common.{take}
use Rattle.std.specs.Prelude.{◌⊎◌}
use Rattle.vl_design.specs.First.{IsFirst}
use Rattle.vl_check.specs.Tables.{rows_of, IsBefore}
use Rattle.vl_check.proofs.Cycling.{Among}
use Rattle.vl_check.proofs.recursion.calls_fault.Given as goal

abbrev pub invariant-loop-call : goal.invariant-loop-call
invariant-loop-call l = IsFirst (λ s. IsBefore (rows_of l.table) l.f s ⊎ Among (rows_of l.table) l.f (take l.call-index l.calls) s) l.first
