use Rattle.std.proofs.Common.{◌≡◌, length}
use Rattle.vl_check.specs.Tables.{rows_of}
use Rattle.vl_check.specs.Searches.{room}
use Rattle.vl_check.proofs.Searching.{Searching}
use Rattle.vl_check.proofs.search.reaches.Given as goal

abbrev pub invariant-search : goal.invariant-search
invariant-search l = record {
  long : length l.seen.items ≡ length l.table;
  searches : Searching (rows_of l.table) l.from l.seen.items l.stack.items;
}

abbrev pub decreases-search : goal.decreases-search
decreases-search l = room l.seen.items l.stack.items
