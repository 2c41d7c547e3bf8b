use Rattle.std.proofs.Common.{◌≡◌, ◌+◌, length}
use Rattle.vl_bits.specs.Walks.{IsClear}
use Rattle.vl_latch.proofs.paths.grow.Given as goal

abbrev pub invariant-loop : goal.invariant-loop
invariant-loop l = record {
  long : length l.known.items ≡ length l.fn.known.items + l.index;
  clear : IsClear l.known.items;
}
