use Rattle.std.proofs.Common.{◌≡◌, ◌++◌, ◌≤◌, length}
use Rattle.std.specs.Prelude.{All}
use Rattle.fab_rounds.specs.Ledgers.{labels_of}
use Rattle.fab_rounds.specs.Openings.{AreSeated}
use Rattle.fab_rounds.proofs.opening.open_all.Given as goal

abbrev pub invariant-loop-label : goal.invariant-loop-label
invariant-loop-label l = record {
  some : All (λ x. 1 ≤ x.tenants) l.labels.items;
  seated : AreSeated l.posts;
  all : l.labels.items ++ labels_of l.posts.desks.items ≡ l.fn.labels.items;
}

abbrev pub decreases-loop-label : goal.decreases-loop-label
decreases-loop-label l = length l.labels.items
