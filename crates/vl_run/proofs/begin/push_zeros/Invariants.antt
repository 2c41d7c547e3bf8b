use Rattle.std.proofs.Common.{◌≡◌, ◌++◌, drop, map}
use Rattle.vl_design.specs.Functions.{zeros}
use Rattle.vl_design.specs.Trees.{row_of}
use Rattle.vl_run.proofs.begin.push_zeros.Given as goal

abbrev pub invariant-loop-signal : goal.invariant-loop-signal
invariant-loop-signal l = l.values.items ++ zeros (map row_of (drop l.signal-index l.signals)) ≡ l.initial.values.items ++ zeros (map row_of l.signals)
