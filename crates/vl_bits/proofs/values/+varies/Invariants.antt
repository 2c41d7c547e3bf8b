use Rattle.std.proofs.Common.{◌≡◌, drop}
use Rattle.vl_design.specs.Nodes.{some_have}
use Rattle.vl_design.specs.Trees.{exps_of}
use Rattle.vl_paths.specs.Bits.{varies}
use Rattle.vl_bits.proofs.values.+varies.Given as goal

abbrev pub invariant-some_vary-loop-e : goal.invariant-some_vary-loop-e
invariant-some_vary-loop-e l = some_have varies (exps_of l.es) ≡ some_have varies (exps_of (drop l.e-index l.es))
