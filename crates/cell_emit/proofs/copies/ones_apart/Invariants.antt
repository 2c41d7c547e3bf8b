use Rattle.std.proofs.Common.{◌≡◌}
use Rattle.vl_sites.specs.vl_design.specs.Value.{repeated}
use Rattle.cell_emit.proofs.copies.ones_apart.Given as goal

abbrev pub invariant-loop-copy : goal.invariant-loop-copy
invariant-loop-copy l = l.ones ≡ repeated l.copy l.width 1
