use Rattle.std.proofs.Common.{◌≡◌, drop}
use Rattle.std.specs.Prelude.{◌++◌}
use Rattle.cell_emit.specs.vl_sites.specs.Stored.{targets_stored}
use Rattle.vl_design.specs.Plainly as plain
use Rattle.cell_emit.specs.vl_sites.specs.Lists.{targets_of}
use Rattle.ten_form.proofs.memories.+targets.Given as goal

abbrev pub invariant-targets-loop-t : goal.invariant-targets-loop-t
invariant-targets-loop-t l = l.memories.items ++ targets_stored (plain.targets (targets_of (drop l.t-index l.ts))) ≡ l.initial.memories.items ++ targets_stored (plain.targets (targets_of l.ts))
