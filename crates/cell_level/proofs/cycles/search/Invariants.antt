use Rattle.std.proofs.Common.{◌≡◌, ◌+◌, ◌*◌, not, length}
use Rattle.std.specs.List.{count_by}
use Rattle.cell_level.specs.Nets as spec
use Rattle.cell_level.specs.Walks.{on}
use Rattle.cell_level.proofs.Search.{Searching}
use Rattle.cell_level.proofs.cycles.search.Given as goal

abbrev pub invariant-search : goal.invariant-search
invariant-search l = record {
  long : length l.seen.items ≡ length l.nets;
  searches : Searching (spec.Edge l.nets) l.start l.seen.items l.stack.items;
  kept : on l.seen.items l.start ≡ on l.fn.seen.items l.start;
}

abbrev pub decreases-search : goal.decreases-search
decreases-search l = 2 * count_by not l.seen.items + length l.stack.items
