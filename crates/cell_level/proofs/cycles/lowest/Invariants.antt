use Rattle.std.proofs.Common.{ℕ, ◌<◌}
use Rattle.cell_level.specs.Cycles.{IsOnCycle}
use Rattle.cell_level.specs.Nets as spec
use Rattle.cell_level.proofs.cycles.lowest.Given as goal

abbrev pub invariant-loop-net : goal.invariant-loop-net
invariant-loop-net l = (p : ℕ) → p < l.net → IsOnCycle (spec.Edge l.nets) p → ⊥
