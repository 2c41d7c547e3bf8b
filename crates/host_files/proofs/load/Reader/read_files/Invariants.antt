use Rattle.std.proofs.Common.{◌≡◌, ◌≤◌}
use Rattle.host_files.proofs.Filing.{AreReadTo}
use Rattle.host_files.proofs.load.Reader.read_files.Given as goal

abbrev pub invariant-loop-line : goal.invariant-loop-line
invariant-loop-line g l = record {
  told : g.S.Store.told l.store ≡ g.S.Store.told l.initial.store;
  faults : g.S.Store.faults l.initial.store ≤ g.S.Store.faults l.store;
  absences : g.S.Store.absences l.initial.store ≤ g.S.Store.absences l.store;
  missed : g.S.Store.missed l.store ≡ g.S.Store.missed l.initial.store;
  read : AreReadTo (g.S.Store.told l.initial.store) l.lines l.line-index l.set l.initial.self.room l.self.room;
}
