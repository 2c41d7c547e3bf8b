use Rattle.std.proofs.Common.{◌≡◌, drop, map}
use Rattle.vl_design.specs.Seen.{placed, func_of}
use Rattle.vl_design.specs.Stops.{earliest}
use Rattle.vl_check.specs.Standing.{functions_faults}
use Rattle.vl_check.proofs.processes.functions_fault.Given as goal

abbrev pub invariant-loop-f : goal.invariant-loop-f
invariant-loop-f l = earliest l.first (functions_faults (placed l.design) (map func_of (drop l.f-index l.fs))) ≡ earliest l.initial.first (functions_faults (placed l.design) (map func_of l.fs))
