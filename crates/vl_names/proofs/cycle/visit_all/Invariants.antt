use Rattle.std.proofs.Common.{take}
use Rattle.vl_names.specs.Walks as spec
use Rattle.vl_names.proofs.cycle.visit_all.Given as goal

abbrev pub invariant-loop-node : goal.invariant-loop-node
invariant-loop-node l = spec.Visits (take l.node-index l.nodes) l.initial.marks.items l.initial.pile.items l.marks.items l.pile.items
