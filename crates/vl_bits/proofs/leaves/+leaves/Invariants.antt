use Rattle.std.proofs.Common.{◌≡◌, ◌++◌, drop, map}
use Rattle.vl_design.specs.Trees.{target_of}
use Rattle.vl_bits.proofs.Targets.{listed}
use Rattle.vl_bits.specs.Drivers.{leaves, all_leaves}
use Rattle.vl_bits.specs.SeenOfDrivers.{leaf_of}
use Rattle.vl_bits.proofs.leaves.+leaves.Given as goal

abbrev pub invariant-loop-part : goal.invariant-loop-part
invariant-loop-part l = map leaf_of l.all.items ++ all_leaves (listed (drop l.part-index l.part-items)) ≡ map leaf_of l.fn.all.items ++ leaves (target_of l.t)
