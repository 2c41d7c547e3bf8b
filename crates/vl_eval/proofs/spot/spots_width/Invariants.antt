use Rattle.std.proofs.Common.{◌≡◌, ◌≤◌, ◌+◌, drop, map}
use Rattle.vl_design.specs.Targets as targets
use Rattle.vl_eval.specs.Spots.{spot_of}
use Rattle.vl_eval.proofs.spot.spots_width.Given as goal

abbrev pub invariant-loop-spot : goal.invariant-loop-spot
invariant-loop-spot l = record {
  narrow : targets.spots_width (map spot_of l.spots) ≤ 128;
  sum : l.total + targets.spots_width (map spot_of (drop l.spot-index l.spots)) ≡ targets.spots_width (map spot_of l.spots);
}
