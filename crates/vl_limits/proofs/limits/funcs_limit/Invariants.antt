use Rattle.std.proofs.Common.{◌≡◌, map, drop}
use Rattle.vl_design.specs.Seen.{placed, func_of}
use Rattle.vl_loops.specs.Limits.{funcs_limit}
use Rattle.vl_limits.proofs.limits.funcs_limit.Given as goal

abbrev pub invariant-loop-index : goal.invariant-loop-index
invariant-loop-index l = funcs_limit (placed l.fn.design) l.index (map func_of (drop l.index l.funcs)) ≡ funcs_limit (placed l.fn.design) 0 (map func_of l.funcs)
