use Rattle.std.proofs.Common.{◌≡◌, map, drop}
use Rattle.vl_eval.specs.vl_design.specs.Trees.{flat_of, proc_of}
use Rattle.plain_run.specs.Runs as r
use Rattle.plain_run.proofs.Bodies.{any-fall}
use Rattle.plain_run.proofs.run.has_fall.Given as goal

-- none so far
abbrev pub invariant-loop-process : goal.invariant-loop-process
invariant-loop-process l = r.has_fall (flat_of l.design) ≡ any-fall (map proc_of (drop l.process-index l.process-items))
