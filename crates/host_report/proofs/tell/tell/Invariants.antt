use Rattle.std.proofs.Common.{◌≡◌, ◌+◌, length, drop}
use Rattle.std.specs.Vec.Iter.{into_iter_items}
use Rattle.host_report.specs.Telling.{AreTellable}
use Rattle.host_report.proofs.Onward.{GoesOn}
use Rattle.host_report.proofs.tell.tell.Given as goal

abbrev pub invariant-loop-tenant : goal.invariant-loop-tenant
invariant-loop-tenant l = record {
  left : AreTellable (into_iter_items l.refusals) (into_iter_items l.ended);
  count : length (into_iter_items l.refusals) + l.tenant-index ≡ length l.tenant-items;
  onward : GoesOn l.script l.fn.refusals.items l.fn.ended.items (drop l.tenant-index l.tenant-items) (into_iter_items l.refusals) (into_iter_items l.ended) l.blocks.items l.kept.items;
}
