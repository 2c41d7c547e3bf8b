use Rattle.std.proofs.Common.{◌≡◌, drop}
use Rattle.sub_split.specs.Waves.{has_fall}
use Rattle.sub_split.proofs.waves.has_fall.Given as goal

abbrev pub invariant-loop-process : goal.invariant-loop-process
invariant-loop-process l = has_fall (drop l.process-index l.processes) ≡ has_fall l.processes
