use Rattle.std.proofs.Common.{◌≡◌, drop}
use Rattle.vl_design.specs.Exec.{labels_form}
use Rattle.vl_design.specs.Sound.{AreSound, IsWidth}
use Rattle.vl_design.specs.Trees.{exps_of}
use Rattle.vl_eval.specs.Rooms.{names_of}
use Rattle.cell_expr.proofs.case.labels_form.Given as goal

abbrev pub invariant-loop-label : goal.invariant-loop-label
invariant-loop-label l =
    let rest = exps_of (drop l.label-index l.labels) in
    record {
      sound : AreSound (names_of l.room) rest;
      width : IsWidth l.all.width;
      leads : labels_form (names_of l.room) l.all rest ≡ labels_form (names_of l.room) l.initial.all (exps_of l.labels);
    }
