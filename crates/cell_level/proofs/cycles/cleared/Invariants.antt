use Rattle.std.proofs.Common.{◌≡◌, ◌<◌, ℕ, true, length}
use Rattle.std.specs.Prelude.{All}
use Rattle.cell_level.specs.Cycles.{IsOnCycle}
use Rattle.cell_level.specs.Nets as spec
use Rattle.cell_level.specs.Walks.{on}
use Rattle.cell_level.proofs.cycles.cleared.Given as goal

abbrev pub invariant-back : goal.invariant-back
invariant-back l = record {
  seen : length l.seen.items ≡ length l.nets;
  flags : length l.off.items ≡ length l.nets;
  order : All (λ x. x < length l.nets) l.order.items;
  closed : (x y : ℕ) → spec.Edge l.nets x y → on l.seen.items x ≡ true → on l.seen.items y ≡ true;
  off : (x : ℕ) → on l.off.items x ≡ true → IsOnCycle (spec.Edge l.nets) x → ⊥;
}

abbrev pub decreases-back : goal.decreases-back
decreases-back l = length l.order.items
