use Rattle.std.proofs.Common.{◌≡◌, drop}
use Rattle.cell_emit.specs.vl_sites.specs.Lists.{targets_of}
use Rattle.cell_states.specs.Marks.{targets_signals, marked}
use Rattle.cell_states.proofs.delays.+targets.Given as goal

abbrev pub invariant-targets-loop-t : goal.invariant-targets-loop-t
invariant-targets-loop-t l = marked l.marks.items (targets_signals (targets_of (drop l.t-index l.ts))) ≡ marked l.initial.marks.items (targets_signals (targets_of l.ts))
