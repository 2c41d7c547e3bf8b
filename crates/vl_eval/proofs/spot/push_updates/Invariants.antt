use Rattle.std.proofs.Common.{◌≡◌, ◌≤◌, ◌++◌, drop, map}
use Rattle.std.specs.Prelude.{All}
use Rattle.vl_design.specs.Sound.{IsNamed, IsWidth}
use Rattle.vl_design.specs.Width.{Names}
use Rattle.vl_design.specs.Targets as targets
use Rattle.vl_eval.specs.Spots.{spot_of}
use Rattle.vl_eval.specs.Updates.{update_of}
use Rattle.vl_eval.proofs.spot.push_updates.Given as goal

abbrev pub invariant-loop-spot : goal.invariant-loop-spot
invariant-loop-spot l =
    let rest = map spot_of (drop l.spot-index l.spots) in
    record {
      spots : All (λ p. IsWidth p.width) l.spots;
      narrow : l.left ≤ 128;
      left : l.left ≡ targets.spots_width rest;
      leads : map update_of l.updates.items ++ targets.updates_at rest l.value ≡ map update_of l.initial.updates.items ++ targets.updates_at (map spot_of l.spots) l.value;
      named : (names : Names) → All (λ p. IsNamed names p.signal) l.spots → All (λ u. IsNamed names u.signal) l.initial.updates.items → All (λ u. IsNamed names u.signal) l.updates.items;
    }
