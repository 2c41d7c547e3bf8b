use Rattle.std.proofs.Common.{◌≡◌, ◌≤◌}
use Rattle.fab_core.specs.fab_model.specs.Fabrics.{joining, Fabric}
use Rattle.fab_bay.specs.Standing.{IsNoted}
use Rattle.fab_bay.proofs.Coming.{IsComing}
use Rattle.fab_bay.proofs.noted.NotedCore.join.Given as goal

abbrev pub invariant-loop-place : goal.invariant-loop-place
invariant-loop-place l = record {
  most : l.place ≤ l.count;
  joins : (f : Fabric) → IsNoted l.fn.self f → l.count ≡ joining f;
  coming : IsComing l.number l.place l.initial.self l.self;
}
