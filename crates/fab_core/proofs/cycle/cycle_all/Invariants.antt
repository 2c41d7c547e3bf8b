use Rattle.std.proofs.Common.{◌≡◌, ◌≤◌, List, take}
use Rattle.fab_model.specs.Points.{Point}
use Rattle.fab_model.specs.Fabrics.{steppers}
use Rattle.fab_core.specs.Standing.{ArePartsApart, AreStanding}
use Rattle.fab_core.proofs.Steps.{stepped_first}
use Rattle.fab_core.proofs.cycle.cycle_all.Given as goal

abbrev pub invariant-loop-place : goal.invariant-loop-place
invariant-loop-place l = record {
  standing : (ps : List Point) → AreStanding l.fn.joined l.fn.residents ps → AreStanding l.joined l.residents (stepped_first l.holding l.place ps);
  counted : (ps : List Point) → AreStanding l.fn.joined l.fn.residents ps → l.count ≡ steppers l.holding (take l.place ps);
  small : l.count ≤ l.place;
  apart : ArePartsApart l.residents;
}
