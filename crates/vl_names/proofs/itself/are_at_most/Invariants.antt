use Rattle.std.proofs.Common.{ℕ, ◌≤◌, take}
use Rattle.vl_scope.specs.Faults.{In}
use Rattle.vl_names.specs.Walks as spec
use Rattle.vl_names.proofs.itself.are_at_most.Given as goal

abbrev pub invariant-loop-node : goal.invariant-loop-node
invariant-loop-node l = (k : ℕ) → In k (take l.node-index l.nodes) → spec.rank l.ranks k ≤ l.limit
