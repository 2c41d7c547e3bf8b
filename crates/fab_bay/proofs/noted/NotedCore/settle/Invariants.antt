use Rattle.std.proofs.Common.{◌≡◌, ◌+◌, ◌++◌, ℕ, List, length}
use Rattle.fab_core.specs.fab_model.specs.Fabrics.{Fabric}
use Rattle.fab_core.specs.Standing.{IsFabric}
use Rattle.fab_core.specs.fab_model.specs.declared.note.Note.{Note}
use Rattle.fab_core.specs.fab_model.specs.declared.transit.Transit.{Transit}
use Rattle.fab_bay.specs.Standing.{HasRoomFor, IsNoted}
use Rattle.fab_bay.specs.Ways.{Settles}
use Rattle.fab_bay.proofs.Ran.{AreSettledTo}
use Rattle.fab_bay.proofs.Wholes.{IsOnce}
use Rattle.fab_bay.proofs.noted.NotedCore.settle.Given as goal

abbrev pub invariant-loop-place : goal.invariant-loop-place
invariant-loop-place l = record {
  goes : (out : List Transit) → Settles l.number l.initial.self l.self out;
  kept : (f : Fabric) → IsNoted l.initial.self f → IsNoted l.self f;
  core : l.self.core ≡ l.initial.self.core;
  long : length l.self.berths.items ≡ length l.initial.self.berths.items;
  room : (m : ℕ) → l.place + m ≡ length l.initial.self.berths.items → HasRoomFor m l.self;
  once : (added : List Note) → l.self.notes.items ≡ l.initial.self.notes.items ++ added → IsOnce l.initial.self l.self l.place added;
  settled : (f : Fabric) → IsFabric l.initial.self.core f → AreSettledTo l.place l.self.berths.items f.residents;
}
