use Rattle.std.proofs.Common.{◌≡◌, drop}
use Rattle.vl_check.specs.Headers.{is_one_of}
use Rattle.vl_check.proofs.headers.is_one_of.Given as goal

abbrev pub invariant-loop-k : goal.invariant-loop-k
invariant-loop-k l = is_one_of (drop l.k-index l.around) l.number ≡ is_one_of l.around l.number
