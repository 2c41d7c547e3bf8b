use Rattle.std.proofs.Common.{List, drop}
use Rattle.vl_design.specs.Sound.{AreSoundTargets}
use Rattle.vl_design.specs.Targets.{spots, all_spots, target_width, targets_width}
use Rattle.vl_design.specs.Trees.{target_of}
use Rattle.vl_eval.specs.Rooms.{names_of, sample_of}
use Rattle.vl_eval.specs.declared.spot.Spot.{Spot}
use Rattle.vl_run.specs.Lists.{targets_of, Spotted}
use Rattle.vl_run.specs.Scopes.{scope_of}
use Rattle.vl_run.proofs.scope.Scope.+push_spots.Given as goal

abbrev pub invariant-loop-part : goal.invariant-loop-part
invariant-loop-part g l =
    let names = names_of l.self.room in
    let rest = targets_of (drop l.part-index l.part-items) in
    record {
      sound : AreSoundTargets names rest;
      leads : (new : List Spot) → Spotted names l.spots.items new (all_spots (scope_of l.self) (sample_of l.s) rest) (targets_width names rest)
          → Spotted names l.initial.spots.items new (spots (scope_of l.self) (sample_of l.s) (target_of l.target)) (target_width names (target_of l.target));
    }
