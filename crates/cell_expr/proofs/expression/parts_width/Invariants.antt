use Rattle.std.proofs.Common.{◌≡◌, ◌+◌, drop}
use Rattle.vl_design.specs.Sound.{AreSound}
use Rattle.vl_design.specs.Trees.{exps_of}
use Rattle.vl_design.specs.Width.{total_width}
use Rattle.vl_eval.specs.Rooms.{names_of}
use Rattle.cell_expr.proofs.expression.parts_width.Given as goal

abbrev pub invariant-loop-part : goal.invariant-loop-part
invariant-loop-part l =
    let rest = exps_of (drop l.part-index l.parts) in
    record {
      sound : AreSound (names_of l.room) rest;
      sum : l.bits + total_width (names_of l.room) rest ≡ total_width (names_of l.room) (exps_of l.parts);
    }
