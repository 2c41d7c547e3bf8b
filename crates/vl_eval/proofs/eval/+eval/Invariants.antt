use Rattle.std.proofs.Common.{◌≡◌, ◌≤◌, ◌<◌, ◌+◌, ◌^◌, ℕ, List, drop}
use Rattle.vl_base.specs.Selects.{appended}
use Rattle.vl_design.specs.Trees.{exp_of, exps_of}
use Rattle.vl_design.specs.Sound.{AreSound}
use Rattle.vl_design.specs.Width.{total_width}
use Rattle.vl_eval.specs.Rooms.{names_of, sample_of}
use Rattle.vl_eval.specs.Answers.{ReadsAll, parts_of}
use Rattle.vl_eval.proofs.eval.+eval.Given as goal

abbrev pub invariant-read_parts-loop-part : goal.invariant-read_parts-loop-part
invariant-read_parts-loop-part l =
    let names = names_of l.room in
    let s = sample_of l.s in
    let whole = parts_of (exp_of l.e) in
    let left = exps_of (drop l.part-index l.part-items) in
    record {
      sound : AreSound names left;
      small : total_width names whole ≤ 128;
      sum : l.all.width + total_width names left ≡ total_width names whole;
      fits : l.all.value < 2 ^ l.all.width;
      leads : (v : ℕ) (after : List ℕ) → ReadsAll names s left l.all.left.now v after → ReadsAll names s whole l.calls (appended l.all.value (total_width names left) v) after;
    }
