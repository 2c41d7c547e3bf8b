use Rattle.std.proofs.Common.{◌≡◌, ◌≤◌}
use Rattle.host_files.proofs.Tenants.{AreLoadedTo}
use Rattle.host_files.proofs.load.load.Given as goal

abbrev pub invariant-loop-line : goal.invariant-loop-line
invariant-loop-line g l = record {
  told : g.S.Store.told l.store ≡ g.S.Store.told l.initial.store;
  faults : g.S.Store.faults l.initial.store ≤ g.S.Store.faults l.store;
  absences : g.S.Store.absences l.initial.store ≤ g.S.Store.absences l.store;
  missed : g.S.Store.missed l.store ≡ g.S.Store.missed l.initial.store;
  loaded : AreLoadedTo (g.S.Store.told l.initial.store) l.line-items l.line-index l.all.items l.reader.room;
}
