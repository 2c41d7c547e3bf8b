use Rattle.std.proofs.Common.{◌≡◌, ◌≤◌, ◌+◌, drop}
use Rattle.vl_design.specs.Sound.{AreSoundTargets}
use Rattle.vl_design.specs.Targets.{target_width, targets_width}
use Rattle.vl_design.specs.Trees.{target_of}
use Rattle.vl_eval.specs.Rooms.{names_of}
use Rattle.vl_run.specs.Lists.{targets_of}
use Rattle.cell_expr.proofs.spot.+width.Given as goal

abbrev pub invariant-loop-part : goal.invariant-loop-part
invariant-loop-part l =
    let names = names_of l.room in
    let rest = targets_of (drop l.part-index l.part-items) in
    record {
      sound : AreSoundTargets names rest;
      narrow : target_width names (target_of l.target) ≤ 128;
      sum : l.all + targets_width names rest ≡ target_width names (target_of l.target);
    }
