use Rattle.std.proofs.Common.{◌≡◌, ◌<◌, ℕ, true, [], length}
use Rattle.cell_level.specs.Nets as spec
use Rattle.cell_level.specs.Walks.{on, Walking}
use Rattle.cell_level.proofs.orders.walk_all.Given as goal

abbrev pub invariant-loop-root : goal.invariant-loop-root
invariant-loop-root l = record {
  walks : Walking (spec.Edge l.nets) (length l.nets) l.walk.seen.items l.walk.done.items l.walk.order.items [] l.walk.cyclic;
  seen : (x : ℕ) → x < l.root → on l.walk.seen.items x ≡ true;
}
