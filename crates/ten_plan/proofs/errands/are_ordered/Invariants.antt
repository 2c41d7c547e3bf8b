use Rattle.std.proofs.Common.{◌≡◌, ℕ, ◌+◌}
use Rattle.ten_plan.proofs.Neighbours.{From}
use Rattle.ten_plan.proofs.errands.are_ordered.Given as goal

-- all are in order where those from the one before this on are
abbrev pub invariant-loop-number : goal.invariant-loop-number
invariant-loop-number l = (m : ℕ) → l.number ≡ m + 1 → From l.errands m → From l.errands 0
