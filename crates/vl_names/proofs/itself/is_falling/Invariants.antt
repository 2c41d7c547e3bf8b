use Rattle.std.proofs.Common.{ℕ, ◌<◌, ◌≤◌}
use Rattle.vl_names.specs.Walks as spec
use Rattle.vl_names.proofs.itself.is_falling.Given as goal

abbrev pub invariant-loop-node : goal.invariant-loop-node
invariant-loop-node l = (a b : ℕ) → a < l.node → spec.IsStep l.graph a b → spec.rank l.ranks b ≤ spec.rank l.ranks a
