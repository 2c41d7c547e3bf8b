use Rattle.std.proofs.Common.{map, drop}
use Rattle.vl_design.specs.Seen.{placed, process_of}
use Rattle.vl_loops.specs.Limits.{processes_limit}
use Rattle.vl_limits.proofs.Passing.{Passes}
use Rattle.vl_limits.proofs.limits.processes_limit.Given as goal

abbrev pub invariant-loop-process : goal.invariant-loop-process
invariant-loop-process l = Passes (placed l.design) l.sums.statements l.sums.nodes (map process_of (drop l.process-index l.processes)) (processes_limit (placed l.design) 0 0 (map process_of l.processes))
