use Rattle.std.proofs.Common.{◌≡◌}
use Rattle.fab_core.proofs.Counted.{AreCounted}
use Rattle.fab_core.proofs.rebuild.joining_of.Given as goal

abbrev pub invariant-loop-tenant : goal.invariant-loop-tenant
invariant-loop-tenant l = record {
  count : l.count ≡ l.tenant-index;
  counted : AreCounted l.line l.fn.used l.capacity l.tenant-index l.all;
}
