use Rattle.std.proofs.Common.{◌≡◌, ◌≤◌, ◌+◌, drop}
use Rattle.vl_design.specs.Trees.{exp_of, exps_of}
use Rattle.vl_design.specs.Sound.{AreSound}
use Rattle.vl_design.specs.Width.{total_width}
use Rattle.vl_eval.specs.Rooms.{names_of}
use Rattle.vl_eval.specs.Answers.{parts_of}
use Rattle.vl_eval.proofs.form.+form.Given as goal

abbrev pub invariant-total_width-loop-part : goal.invariant-total_width-loop-part
invariant-total_width-loop-part l =
    let names = names_of l.room in
    let left = exps_of (drop l.part-index l.part-items) in
    record {
      sound : AreSound names left;
      narrow : total_width names (parts_of (exp_of l.e)) ≤ 128;
      sum : l.total + total_width names left ≡ total_width names (parts_of (exp_of l.e));
    }
