use Rattle.std.proofs.Common.{◌≡◌, drop, map}
use Rattle.vl_design.specs.Seen.{process_of}
use Rattle.cell_states.specs.Marks.{procs_signals, marked}
use Rattle.cell_states.proofs.delays.delayed.Given as goal

abbrev pub invariant-loop-process : goal.invariant-loop-process
invariant-loop-process l = marked l.marks.items (procs_signals (map process_of (drop l.process-index l.process-items))) ≡ marked l.initial.marks.items (procs_signals (map process_of l.process-items))
