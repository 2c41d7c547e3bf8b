use Rattle.std.proofs.Common.{◌≡◌, ◌≤◌, length}
use Rattle.std.specs.Iterator.Adapters.{zip_first, zip_second}
use Rattle.std.specs.Slice.Iter.{iter_rest}
use Rattle.std.specs.Vec.Iter.{into_iter_items, into_iter_len}
use Rattle.host_files.specs.Writes.{writes_of}
use Rattle.host_files.proofs.Saving.{IsWriting}
use Rattle.host_files.proofs.write.write_all.Given as goal

abbrev pub invariant-tenants : goal.invariant-tenants
invariant-tenants g l = record {
  writing : IsWriting (writes_of l.fn.tenants l.fn.kept.items) (g.S.Store.told l.initial.store) (iter_rest (zip_first l.tenant-iterator))
      (into_iter_items (zip_second l.tenant-iterator)) (g.S.Store.told l.store);
  long : into_iter_len (zip_second l.tenant-iterator) ≡ length (into_iter_items (zip_second l.tenant-iterator));
  faults : g.S.Store.faults l.initial.store ≤ g.S.Store.faults l.store;
  absences : g.S.Store.absences l.store ≡ g.S.Store.absences l.initial.store;
  missed : g.S.Store.missed l.store ≡ g.S.Store.missed l.initial.store;
}
