use Rattle.std.proofs.Common.{◌≡◌, ◌+◌, ◌*◌, ℕ, true, not, length}
use Rattle.std.specs.List.{count_by}
use Rattle.cell_level.specs.Nets as spec
use Rattle.cell_level.specs.Walks.{on, IsWay, Back, Walking}
use Rattle.cell_level.proofs.orders.visit.Given as goal

abbrev pub invariant-visit : goal.invariant-visit
invariant-visit l = record {
  walks : Walking (spec.Edge l.nets) (length l.nets) l.walk.seen.items l.walk.done.items l.walk.order.items l.stack.items l.walk.cyclic;
  way : IsWay (Back (spec.Edge l.nets)) l.stack.items;
  root : on l.walk.seen.items l.root ≡ true;
  kept : (x : ℕ) → on l.fn.walk.seen.items x ≡ true → on l.walk.seen.items x ≡ true;
}

abbrev pub decreases-visit : goal.decreases-visit
decreases-visit l = 2 * count_by not l.walk.seen.items + length l.stack.items
