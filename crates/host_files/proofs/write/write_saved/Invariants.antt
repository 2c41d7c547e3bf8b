use Rattle.std.proofs.Common.{◌≡◌, ◌≤◌, length}
use Rattle.std.specs.Vec.Iter.{into_iter_items, into_iter_len}
use Rattle.host_files.proofs.Saving.{IsSaving}
use Rattle.host_files.proofs.write.write_saved.Given as goal

abbrev pub invariant-saves : goal.invariant-saves
invariant-saves g l = record {
  origin : l.origin ≡ l.fn.kept.origin;
  saving : IsSaving l.tenant l.fn.kept (g.S.Store.told l.initial.store) (into_iter_items l.next-iterator) (g.S.Store.told l.store);
  long : into_iter_len l.next-iterator ≡ length (into_iter_items l.next-iterator);
  faults : g.S.Store.faults l.initial.store ≤ g.S.Store.faults l.store;
  absences : g.S.Store.absences l.store ≡ g.S.Store.absences l.initial.store;
  missed : g.S.Store.missed l.store ≡ g.S.Store.missed l.initial.store;
}
